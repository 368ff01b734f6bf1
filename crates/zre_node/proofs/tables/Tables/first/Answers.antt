use Rattle.std.proofs.Common.{◌≡◌, ℕ, ◌+◌, List, Some, [], ◌∷◌, ◌++◌, refl, sym, ap, ◌∙◌, append-nil, subst}
use Rattle.zre_values.specs.declared.peer_id.PeerId.{PeerId}
use Rattle.zre_peer.specs.declared.event.Event.{Event}
use Rattle.zre_peer.specs.Runs.{events_of}
use Rattle.zre_peer.specs.Views.{view_of}
use Rattle.zre_journal.specs.Chronicle.{Starts, after}
use Rattle.zre_journal.specs.Pushes.{birth}
use Rattle.zre_journal.specs.Peers.{births, life}
use Rattle.zre_journal.specs.Told.{told}
use Rattle.zre_journal.proofs.ProperAfterMarks.{newborn}
use Rattle.zre_node.specs.Stands.{Holds}
use Rattle.zre_node.proofs.MarksAfterMarks.{did_as, did_by}
use Rattle.zre_node.proofs.FirstMessages.{first_starts, known_starts, new_starts, nowhere_starts, newborn_known, its_own_life, starts_tell, new_did, untold_did, on_did_as}
use Rattle.zre_node.proofs.tables.Tables.first.Goals as goal

pub returns-in-Ok : goal.returns-in-Ok
returns-in-Ok c = λ g H h live idle who.
    let place = c.in-Known.ensures g H h in
    let v = place.0 in
    let p = c.args.peer in
    let n = c.args.conn in
    let m = c.args.message in
    let own = its_own_life H h.keeps.proper p v place.1 in
    let it = c.in-Ok.ensures.ok in
    let here = subst (λ (l : ℕ). life l H ≡ Some v) place.2 own.0 in
    let mine = who ∙ ap (λ (x : PeerId). Some x) (sym own.1) in
    let tells = starts_tell g H c.args.self.now h n m v p live idle who own.0 own.1 in
    let held = c.start.ensures g H m v h live idle here mine it.1 (it.2 ∙ sym own.1) in
    did_as g _ (Starts n c.in-Known.link m ∷ []) H _ _ _ (first_starts g n p m H it.0 ∙ known_starts g n p m H v place.1 ∙ ap (λ l. Starts n l m ∷ []) place.2)
    (did_by g (Starts n c.in-Known.link m ∷ []) H c.start.new.self c.args.out.now _ held (it.3 ∙ ap (λ (es : List Event). c.args.out.now.events ++ es) (sym (subst (λ l. told (Starts n l m ∷ []) H ≡ events_of p (view_of []) m.body) place.2 tells))) (sym (append-nil c.args.out.now.acts)) refl (λ l. refl))

pub returns-in-Known : goal.returns-in-Known
returns-in-Known c = λ g H h live idle who.
    untold_did g _ H c.refuse_by.new.self c.args.out.now c.opened.new.events c.refuse_by.new.out c.in-Err.fault c.refuse_by.result c.in-Err.ensures.untold c.refuse_by.ensures.memory
    (c.refuse_by.ensures.did g H c.args.peer c.args.message h live idle c.in-Err.ensures.refused)

pub returns-in-Ok-opened : goal.returns-in-Ok-opened
returns-in-Ok-opened c = λ g H h live idle who.
    let place = c.in-New.ensures g H h in
    let p = c.args.peer in
    let n = c.args.conn in
    let m = c.args.message in
    let e = c.in-New.to in
    let it = c.in-Ok-opened.ensures.ok in
    let was_born = c.in_ok-born-in-Ok-opened.ensures g H h in
    let K = after (birth g p e H) H in
    let number = was_born.holds.keeps.births_is in
    let here = subst (λ (l : ℕ). life l K ≡ Some (newborn (births H + 1) p e)) (sym number) (newborn_known g H h.keeps.proper p e) in
    let held = c.start-in-Ok-opened.ensures g K m (newborn (births H + 1) p e) was_born.holds live idle here who it.1 it.2 in
    did_as g _ (birth g p e H ++ Starts n (births H + 1) m ∷ []) H _ _ _ (first_starts g n p m H it.0 ∙ new_starts g n p m H e place.0 place.1 place.2)
    (new_did g H c.args.self.now c.born.new.self c.start-in-Ok-opened.new.self n m p e c.args.out.now c.opened-in-New.new.events c.born.new.out h live idle who it.3 was_born
    (subst (λ (l : ℕ). Holds g (Starts n l m ∷ K) c.start-in-Ok-opened.new.self) number held))

pub returns-in-New : goal.returns-in-New
returns-in-New c = λ g H h live idle who.
    untold_did g _ H c.refuse_by-in-Err-opened.new.self c.args.out.now c.opened-in-New.new.events c.refuse_by-in-Err-opened.new.out c.in-Err-opened.fault c.refuse_by-in-Err-opened.result c.in-Err-opened.ensures.untold c.refuse_by-in-Err-opened.ensures.memory
    (c.refuse_by-in-Err-opened.ensures.did g H c.args.peer c.args.message h live idle c.in-Err-opened.ensures.refused)

pub returns-in-Ok-opened-2 : goal.returns-in-Ok-opened-2
returns-in-Ok-opened-2 c = λ g H h live idle who.
    let place = c.in-Nowhere.ensures g H h in
    let p = c.args.peer in
    let n = c.args.conn in
    let m = c.args.message in
    on_did_as g _ _ H _ _ _ c.refuse.result (first_starts g n p m H c.in-Ok-opened-2.ensures.ok.0 ∙ nowhere_starts g n p m H c.in-Nowhere.why place.0 (place.1 n)) (c.refuse.ensures g H h live idle)
