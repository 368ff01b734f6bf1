use Rattle.std.proofs.Common.{◌≡◌, ℕ, List, true, false, Option, Some, None, IfSome, is_some, sym, ap, ◌∙◌}
use Rattle.std.specs.Option.{option_map}
use Rattle.uuid.specs.Text.{simple_text, upper, parsed}
use Rattle.zre_values.specs.declared.peer_id.PeerId.{PeerId}
use Rattle.zre_values.specs.Text.{id_text}
use Rattle.zre_values.specs.PlainId.{is_plain_id, IsPeerId}
use Rattle.zre_values.proofs.PlainIds.{octets_of, plain-parsed, plain-text, text-plain, text-parsed}
use Rattle.zre_values.proofs.peer_id.PeerId.read_plain.Goals as goal

found : (r : Option PeerId) (text : List ℕ) → option_map (λ id. id.0) r ≡ parsed text → is_plain_id text ≡ true → is_some r ≡ is_plain_id text
found (Some id) text e plain = sym plain
found None text e plain = let p = plain-parsed text plain in absurd cc

spelled : (r : Option PeerId) (text : List ℕ) → option_map (λ id. id.0) r ≡ parsed text → is_plain_id text ≡ true → IfSome r (λ id. text ≡ id_text id)
unfolding id_text
spelled (Some id) text e plain =
    let same : id.0 ≡ octets_of text = (let p = plain-parsed text plain in cc) in
    plain-text text plain ∙ ap (simple_text upper) (sym same)
spelled None text e plain = tt

again : (r : Option PeerId) (text : List ℕ) (id : PeerId) → option_map (λ id. id.0) r ≡ parsed text → IsPeerId id → text ≡ id_text id → r ≡ Some id
unfolding id_text
again (Some read) text id e is same =
    let p : parsed text ≡ Some id.0 = ap parsed same ∙ text-parsed id is in
    let octets : read.0 ≡ id.0 = cc in
    ap (λ (o : List ℕ). Some (record { 0 = o })) octets
again None text id e is same =
    let p : parsed text ≡ Some id.0 = ap parsed same ∙ text-parsed id is in
    absurd cc

never : (text : List ℕ) (id : PeerId) → is_plain_id text ≡ false → text ≡ id_text id → ⊥
unfolding id_text
never text id other same = let p = ap is_plain_id same ∙ text-plain id.0 in cc

pub returns-then-is_plain_id-clause-some : goal.returns-then-is_plain_id-clause-some
returns-then-is_plain_id-clause-some c = found c.read_octets.result c.args.text.now c.read_octets.ensures (sym c.is_plain_id.ensures ∙ c.if-is_plain_id.true)

pub returns-then-is_plain_id-clause-value : goal.returns-then-is_plain_id-clause-value
returns-then-is_plain_id-clause-value c = spelled c.read_octets.result c.args.text.now c.read_octets.ensures (sym c.is_plain_id.ensures ∙ c.if-is_plain_id.true)

pub returns-then-is_plain_id-clause-back : goal.returns-then-is_plain_id-clause-back
returns-then-is_plain_id-clause-back c = λ id is same. again c.read_octets.result c.args.text.now id c.read_octets.ensures is same

pub returns-else-is_plain_id-clause-back : goal.returns-else-is_plain_id-clause-back
returns-else-is_plain_id-clause-back c = λ id is same. absurd (never c.args.text.now id (sym c.is_plain_id.ensures ∙ c.if-is_plain_id.false) same)
