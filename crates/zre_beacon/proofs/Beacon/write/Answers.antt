use Rattle.std.proofs.Common.{◌≡◌, ℕ, List, [], ◌∷◌, ◌++◌, length, take, drop, sym, ap, ◌∙◌, arith, append-nil}
use Rattle.std.specs.Int.{w16, to_be_bytes}
use Rattle.std.proofs.lemmas.List.{take_at, drop_at}
use borrow.Rule.Slice.PartMut.{put_mid}
use Rattle.zre_beacon.proofs.Beacon.write.Goals as goal

-- the parts, written in turn
put_parts : (id port : List ℕ) → length id ≡ 16 → put_mid 20 2 (put_mid 4 16 (0x5a ∷ 0x52 ∷ 0x45 ∷ 0x01 ∷ 0 ∷ 0 ∷ 0 ∷ 0 ∷ 0 ∷ 0 ∷ 0 ∷ 0 ∷ 0 ∷ 0 ∷ 0 ∷ 0 ∷ 0 ∷ 0 ∷ 0 ∷ 0 ∷ 0 ∷ 0 ∷ []) id) port ≡ 0x5a ∷ 0x52 ∷ 0x45 ∷ 0x01 ∷ (id ++ port)
put_parts id port long =
    let front = take_at id (0 ∷ 0 ∷ []) 16 long in
    let past = ap (drop 2) (drop_at id (0 ∷ 0 ∷ []) 16 long) in
    ap (λ t. 0x5a ∷ 0x52 ∷ 0x45 ∷ 0x01 ∷ (t ++ (port ++ drop 2 (drop 16 (id ++ 0 ∷ 0 ∷ []))))) front
    ∙ ap (λ t. 0x5a ∷ 0x52 ∷ 0x45 ∷ 0x01 ∷ (id ++ (port ++ t))) past
    ∙ ap (λ t. 0x5a ∷ 0x52 ∷ 0x45 ∷ 0x01 ∷ (id ++ t)) (append-nil port)

abbrev zeros : List ℕ
zeros = 0 ∷ 0 ∷ 0 ∷ 0 ∷ 0 ∷ 0 ∷ 0 ∷ 0 ∷ 0 ∷ 0 ∷ 0 ∷ 0 ∷ 0 ∷ 0 ∷ 0 ∷ 0 ∷ 0 ∷ 0 ∷ []

pub returns : goal.returns
returns c =
    let head : c.copy_from_slice.new.self ≡ 0x5a ∷ 0x52 ∷ 0x45 ∷ 0x01 ∷ [] = c.copy_from_slice.ensures.after in
    let id : c.copy_from_slice-2.new.self ≡ c.args.self.now.id.0 = c.copy_from_slice-2.ensures.after in
    let port : c.copy_from_slice-3.new.self ≡ to_be_bytes w16 c.args.self.now.port = c.copy_from_slice-3.ensures.after ∙ c.to_be_bytes.ensures in
    let long : length c.args.self.now.id.0 ≡ 16 = ap length (sym id) ∙ c.copy_from_slice-2.ensures.len ∙ ap (λ h. length (take 16 (drop 4 (h ++ zeros)))) head in
    record {
      spelled = rw (head, id, port) (put_parts c.args.self.now.id.0 (to_be_bytes w16 c.args.self.now.port) long);
      identity = long;
      number = omega arith;
    }
