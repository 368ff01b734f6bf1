-- Taking messages one after the other.
use Rattle.std.proofs.Common.{◌≡◌, ◌≢◌, ℕ, ◌+◌, ◌<◌, Bool, true, false, cond, Result, Ok, Err, List, [], ◌∷◌, ◌++◌, length, take, drop, get_or, Option, refl, sym, ap, ◌∙◌, subst, append_assoc, true≢false}
use Rattle.std.specs.List.{cons_option}
use Rattle.std.specs.Result.{result_ok}
use Rattle.std.proofs.lemmas.List.{append-nil, take-append-drop, take_more}
use Rattle.std.proofs.lemmas.List.Concat.{flat_map-append}
use Rattle.zre_values.specs.declared.memory.OutOfMemory.{OutOfMemory}
use Rattle.zre_values.specs.declared.peer_id.PeerId.{PeerId}
use Rattle.zre_msg.specs.Reading.{read_frames}
use Rattle.zre_msg.specs.declared.message.Bad.{Bad}
use Rattle.zre_msg.specs.declared.message.Message.{Message}
use Rattle.zre_peer.specs.Lines.{line, lines}
use Rattle.zre_peer.specs.Runs.{events_of, fault_of, shown}
use Rattle.zre_peer.specs.Standing.{Stands, Handed, id_of, is_spent, view_in}
use Rattle.zre_peer.specs.Views.{view_of}
use Rattle.zre_peer.specs.declared.event.Event.{Event}
use Rattle.zre_peer.specs.declared.peer_run.Run.{Run}
use Rattle.zre_peer.specs.declared.peer_run.RunFault.{RunFault}
use Rattle.zre_peer.specs.declared.peer_run.RunFault.TheVariants as faults
use Rattle.zre_peer.specs.declared.view.View.{View}
use Rattle.zre_zmtp.specs.declared.item.Item.{Item}
use Rattle.zre_zmtp.specs.declared.item.What.{What}
use Rattle.zre_zmtp.specs.declared.item.What.TheVariants as says
use Rattle.zre_commands.specs.follow.Messages.{meant, meant_by, messages_in}
use Rattle.zre_commands.specs.follow.Runs.{end_of, events_after, is_over}
use Rattle.zre_commands.specs.follow.Taken.{Takes, Took}
use Rattle.zre_commands.proofs.follow.TextIsMonotone.{events_more, over_more, messages_in-append}

-- no message was taken
pub took_none : (id : PeerId) (ms : List Message) (run : Run) (out : List ℕ) → Stands run ms → is_spent run ≡ false → Took id ms [] run out out
unfolding events_after is_over
took_none id ms run out s going = record {
  lines_of = sym (append-nil out);
  over = going;
  stands = λ _. subst (Stands run) (sym (append-nil ms)) s;
}

-- the run took the message that it was handed
pub goes_on : (was now : Run) (m : Message) (out out' : List ℕ) → Handed (Ok tt) was now m out out' → Takes (Ok true) was now (m ∷ []) out out'
unfolding events_after is_over
goes_on was now m out out' h = record {
  took = λ ms s.
      let t = h.ok ms s in
      record {
        lines_of = rw t.0 (t.2 ∙ ap (λ es. out ++ lines es) (sym (append-nil (events_of (id_of was) (view_of ms) m.body))));
        over = rw t.0 h.going;
        stands = λ _. t.1;
      };
  spent = h.going;
  same = h.id;
}

line_alone : (e : Event) → line e ≡ lines (e ∷ [])
line_alone e = sym (append-nil (line e))

-- it refused it, and the line of its end was appended
pub ends_so : (was now : Run) (m : Message) (fault : RunFault) (out out' next : List ℕ) → fault ≢ faults.OutOfMemory → Handed (Err fault) was now m out out' → next ≡ out' ++ line (end_of (id_of now) (view_in now) fault)
    → Takes (Ok false) was now (m ∷ []) out next
unfolding events_after is_over
ends_so was now m fault out out' next memory h e = record {
  took = λ ms s.
      let r = h.refused ms s memory in
      record {
        lines_of = rw r.0
            (e ∙ ap (λ (o : List ℕ). o ++ line (end_of (id_of now) (view_in now) fault)) r.2
            ∙ ap (λ (id : PeerId). out ++ line (end_of id (view_in now) fault)) h.id
            ∙ ap (λ (v : Option View). out ++ line (end_of (id_of was) v fault)) ((h.spent memory).1 ∙ s.view)
            ∙ ap (λ (f : RunFault). out ++ line (end_of (id_of was) (shown ms) f)) r.1
            ∙ ap (λ (o : List ℕ). out ++ o) (line_alone (end_of (id_of was) (shown ms) (fault_of ms m))));
        over = rw r.0 (h.spent memory).0;
        stands = λ g. absurd (true≢false (sym (h.spent memory).0 ∙ g));
      };
  spent = (h.spent memory).0;
  same = h.id;
}

-- no memory was left
pub takes_lost : (e : OutOfMemory) (was now : Run) (ns : List Message) (out out' : List ℕ) → id_of now ≡ id_of was → Takes (Err e) was now ns out out'
takes_lost e was now ns out out' same = record { took = λ _ _. tt; spent = tt; same = same }

-- the frames mean the message that was taken
pub takes_meant : (answer : Result Bool OutOfMemory) (was now : Run) (frames : List (List ℕ)) (m : Message) (out out' : List ℕ) → read_frames frames ≡ Ok m → Takes answer was now (m ∷ []) out out' → Takes answer was now (meant_by frames) out out'
takes_meant answer was now frames m out out' means t = subst (λ (r : Result Message Bad). Takes answer was now (cons_option (result_ok r) []) out out') (sym means) t

-- there was no message
pub takes_none : (run : Run) (out : List ℕ) (ns : List Message) → is_spent run ≡ false → ns ≡ [] → Takes (Ok true) run run ns out out
takes_none run out ns going none = record {
  took = λ ms s. subst (λ ks. Took (id_of run) ms ks run out out) (sym none) (took_none (id_of run) ms run out s going);
  spent = going;
  same = refl;
}

pub bad_means_none : (frames : List (List ℕ)) (bad : Bad) → read_frames frames ≡ Err bad → meant_by frames ≡ []
bad_means_none frames bad is = ap (λ (r : Result Message Bad). cons_option (result_ok r) []) is

-- an item that is no message means none
pub not_meant : (w : What) → ((frames : List (List ℕ)) → w ≡ says.Message frames → ⊥) → cons_option (meant w) [] ≡ []
not_meant (says.Greeting major minor) other = refl
not_meant (says.Ready size socket identity) other = refl
not_meant (says.Command size name body) other = refl
not_meant (says.Message frames) other = absurd (other frames refl)

-- more messages were taken after those
pub took_more : (id : PeerId) (ms ns ks : List Message) (run run' : Run) (out now next : List ℕ) → Took id ms ns run out now → is_spent run ≡ false → Took id (ms ++ ns) ks run' now next → Took id ms (ns ++ ks) run' out next
took_more id ms ns ks run run' out now next t going u =
    let goes : is_over ms ns ≡ false = sym t.over ∙ going in
    record {
      lines_of =
          u.lines_of ∙ ap (λ (r : List ℕ). r ++ lines (events_after id (ms ++ ns) ks)) t.lines_of
          ∙ append_assoc out (lines (events_after id ms ns)) (lines (events_after id (ms ++ ns) ks))
          ∙ ap (λ (r : List ℕ). out ++ r) (sym (flat_map-append line (events_after id ms ns) (events_after id (ms ++ ns) ks)))
          ∙ ap (λ b. out ++ lines (events_after id ms ns ++ cond b [] (events_after id (ms ++ ns) ks))) (sym goes)
          ∙ ap (λ es. out ++ lines es) (sym (events_more id ms ns ks));
      over = u.over ∙ ap (λ b. cond b true (is_over (ms ++ ns) ks)) (sym goes) ∙ sym (over_more ms ns ks);
      stands = λ g. subst (Stands run') (append_assoc ms ns ks) (u.stands g);
    }

-- after the end of the run no more are taken
pub took_enough : (id : PeerId) (ms ns ks : List Message) (run : Run) (out now : List ℕ) → Took id ms ns run out now → is_spent run ≡ true → Took id ms (ns ++ ks) run out now
took_enough id ms ns ks run out now t ended =
    let over : is_over ms ns ≡ true = sym t.over ∙ ended in
    record {
      lines_of =
          t.lines_of ∙ ap (λ es. out ++ lines es) (sym (append-nil (events_after id ms ns)))
          ∙ ap (λ b. out ++ lines (events_after id ms ns ++ cond b [] (events_after id (ms ++ ns) ks))) (sym over)
          ∙ ap (λ es. out ++ lines es) (sym (events_more id ms ns ks));
      over = ended ∙ ap (λ b. cond b true (is_over (ms ++ ns) ks)) (sym over) ∙ sym (over_more ms ns ks);
      stands = λ going. absurd (true≢false (sym ended ∙ going));
    }

-- the messages up to the next item
pub up_to : (items : List Item) (i : ℕ) (item : Item) → take (i + 1) items ≡ take i items ++ item ∷ [] → messages_in (take (i + 1) items) ≡ messages_in (take i items) ++ messages_in (item ∷ [])
up_to items i item e = ap messages_in e ∙ messages_in-append (take i items) (item ∷ [])

-- and those after it
pub all_of : (items : List Item) (i : ℕ) → messages_in items ≡ messages_in (take i items) ++ messages_in (drop i items)
all_of items i = ap messages_in (sym (take-append-drop i items)) ∙ messages_in-append (take i items) (drop i items)

pub take_next : (items : List Item) (i : ℕ) (item : Item) → i < length items → item ≡ get_or items i item → take (i + 1) items ≡ take i items ++ item ∷ []
take_next items i item lt is = take_more items i item lt ∙ ap (λ x. take i items ++ x ∷ []) (sym is)

-- the messages of the next item were taken, and the run goes on
pub took_next : (id : PeerId) (ms : List Message) (items : List Item) (i : ℕ) (item : Item) (run run' : Run) (out now next : List ℕ) → take (i + 1) items ≡ take i items ++ item ∷ []
    → Took id ms (messages_in (take i items)) run out now → is_spent run ≡ false → Took id (ms ++ messages_in (take i items)) (messages_in (item ∷ [])) run' now next → Took id ms (messages_in (take (i + 1) items)) run' out next
took_next id ms items i item run run' out now next e t going u =
    let P : List Message → Type 0 = λ ns. Took id ms ns run' out next in
    subst P (sym (up_to items i item e)) (took_more id ms (messages_in (take i items)) (messages_in (item ∷ [])) run run' out now next t going u)

-- and here it ends
pub took_last : (id : PeerId) (ms : List Message) (items : List Item) (i : ℕ) (item : Item) (run run' : Run) (out now next : List ℕ) → take (i + 1) items ≡ take i items ++ item ∷ []
    → Took id ms (messages_in (take i items)) run out now → is_spent run ≡ false → Took id (ms ++ messages_in (take i items)) (messages_in (item ∷ [])) run' now next → is_spent run' ≡ true → Took id ms (messages_in items) run' out next
took_last id ms items i item run run' out now next e t going u ended =
    let P : List Message → Type 0 = λ ns. Took id ms ns run' out next in
    subst P (sym (all_of items (i + 1))) (took_enough id ms (messages_in (take (i + 1) items)) (messages_in (drop (i + 1) items)) run' out next (took_next id ms items i item run run' out now next e t going u) ended)
