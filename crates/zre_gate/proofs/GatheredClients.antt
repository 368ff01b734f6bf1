-- One client after the other is waited for.
use Rattle.std.proofs.Common.{◌≡◌, ℕ, ◌+◌, Bool, true, false, true≢false, List, [], ◌∷◌, ◌++◌, map, take, length, Option, Some, None, refl, sym, ap, ◌∙◌, subst, append_assoc, append-nil}
use Rattle.std.specs.Prelude.{◌⊎◌, ◌||◌, Contains}
use mathlib.Core.Logic.{inl, inr}
use Rattle.std.proofs.lemmas.Bool.{or_parts}
use Rattle.std.proofs.lemmas.List.{map-append, length-map}
use Rattle.std.proofs.lemmas.List.Elements.{All-nil, All-push, Contains-append_left, Contains-push}
use Rattle.std.proofs.lemmas.Grind.{flat_map-append}
use Rattle.zre_actor.specs.declared.passes.CallerPass.{CallerPass}
use Rattle.zre_actor.specs.Passes.{number, ended, put_by}
use Rattle.zre_console.specs.declared.reader.ending.InputEnd.{InputEnd}
use Rattle.zre_console.specs.declared.reader.ending.InputEnd.TheVariants as end
use Rattle.zre_console.specs.reader.Putting as putting
use Rattle.zre_console.proofs.reader.PutCommands.{puts-none}
use Rattle.zre_commands.specs.declared.pump.status.Status.{Status}
use Rattle.zre_commands.specs.declared.pump.status.Status.TheVariants.{Done, TooLong, OutOfMemory}
use Rattle.zre_console.specs.Statuses.{least}
use Rattle.zre_console.proofs.LeastStatus.{memory_here}
use Rattle.zre_gate.specs.Clients.{SeenClient, Served, IsServed, put_for, put_for_all, after_of, is_over, of_client}
use Rattle.zre_gate.specs.Gathering.{IsOwnEnd, IsWell, Ends, Gathers, Closes}
use Rattle.zre_gate.specs.ClientLists.{ClientList, NewClient, IsAnswer, number_of, new_client_at, new_client_of}
use Rattle.zre_gate.proofs.ClientPlaces.{new_client_taken}
use Rattle.std.proofs.Math.Seq.{take-length}

-- ---- what several ends come to

done_first : (r : Status) → least (Done ∷ r ∷ []) ≡ r
done_first Done = refl
done_first r = refl

module _ (served : List Served) (s : Served) (status status' : Status) (e : Ends served status) where
  all : List Served
  all = served ++ s ∷ []

  -- an end that comes to nothing
  plain : of_client s.end ≡ Done → status' ≡ status → Ends (served ++ s ∷ []) status'
  plain well same = record {
    well = λ is. All-push IsWell served s (e.well (sym same ∙ is)) well;
    cause = by e.cause;
  }
    where
      by : (status ≡ Done) ⊎ ((status ≡ OutOfMemory) ⊎ ((status ≡ TooLong) × (x : Served) × Contains served x × (x.end ≡ end.TooLong)))
          → (status' ≡ Done) ⊎ ((status' ≡ OutOfMemory) ⊎ ((status' ≡ TooLong) × (x : Served) × Contains (served ++ s ∷ []) x × (x.end ≡ end.TooLong)))
      by (inl is) = inl (same ∙ is)
      by (inr (inl is)) = inr (inl (same ∙ is))
      by (inr (inr (is, x, there, long))) = inr (inr (same ∙ is, x, Contains-append_left served (s ∷ []) x there, long))

  long : s.end ≡ end.TooLong → status' ≡ least (TooLong ∷ status ∷ []) → Ends (served ++ s ∷ []) status'
  long is same = by e.cause
    where
      this : status' ≡ TooLong → Ends (served ++ s ∷ []) status'
      this x = record { well = λ d. absurd (let y : TooLong ≡ Done = sym x ∙ d in cc); cause = inr (inr (x, s, Contains-push served s, is)) }

      by : (status ≡ Done) ⊎ ((status ≡ OutOfMemory) ⊎ ((status ≡ TooLong) × (x : Served) × Contains served x × (x.end ≡ end.TooLong))) → Ends (served ++ s ∷ []) status'
      by (inl d) = this (same ∙ ap (λ r. least (TooLong ∷ r ∷ [])) d)
      by (inr (inl m)) = (let x : status' ≡ OutOfMemory = same ∙ ap (λ r. least (TooLong ∷ r ∷ [])) m in
          record { well = λ d. absurd (let y : OutOfMemory ≡ Done = sym x ∙ d in cc); cause = inr (inl x) })
      by (inr (inr (l, x, there, too))) = this (same ∙ ap (λ r. least (TooLong ∷ r ∷ [])) l)

  memory : status' ≡ OutOfMemory → Ends (served ++ s ∷ []) status'
  memory x = record { well = λ d. absurd (let y : OutOfMemory ≡ Done = sym x ∙ d in cc); cause = inr (inl x) }

  more : (how : InputEnd) → s.end ≡ how → status' ≡ least (of_client how ∷ status ∷ []) → Ends (served ++ s ∷ []) status'
  more end.Quit is same = plain (ap of_client is) (same ∙ done_first status)
  more end.AtEnd is same = plain (ap of_client is) (same ∙ done_first status)
  more end.Over is same = plain (ap of_client is) (same ∙ done_first status)
  more end.ReadFault is same = plain (ap of_client is) (same ∙ done_first status)
  more end.TooLong is same = long is same
  more end.OutOfMemory is same = memory (same ∙ memory_here OutOfMemory (status ∷ []) refl)

  pub one_end : status' ≡ least (of_client s.end ∷ status ∷ []) → Ends (served ++ s ∷ []) status'
  one_end same = more s.end refl same

-- ---- the passes

pub none_gathered : (limit : ℕ) (p : CallerPass) → Gathers limit [] [] p p Done false
none_gathered limit p = record {
  served = [];
  are_new_clients = refl;
  are_after = refl;
  each = All-nil (IsServed limit);
  same_number = refl;
  absorbed = sym (append-nil (ended p));
  put = sym (append-nil (put_by p));
  ends = record { well = λ _. All-nil IsWell; cause = inl refl };
  own_ends = λ _. All-nil IsOwnEnd;
}

pub one_gathered : (limit : ℕ) (new_clients : List NewClient) (x : NewClient) (afters : List SeenClient) (r : SeenClient) (p q q' o : CallerPass) (status status' : Status) (over over' : Bool)
    → Gathers limit new_clients afters p q status over → (s : Served) → new_client_of s ≡ x → s.after ≡ r → IsServed limit s → number o ≡ s.number → ended o ≡ [] → put_by o ≡ put_for s
    → number q' ≡ number q → ended q' ≡ ended q ++ number o ∷ ended o → put_by q' ≡ put_by q ++ put_by o
    → status' ≡ least (of_client s.end ∷ status ∷ []) → over' ≡ (over || is_over s.end)
    → Gathers limit (new_clients ++ x ∷ []) (afters ++ r ∷ []) p q' status' over'
one_gathered limit new_clients x afters r p q q' o status status' over over' g s is after served num none put same absorbed puts status_is over_is = record {
  served = g.served ++ s ∷ [];
  are_new_clients = map-append new_client_of g.served (s ∷ []) ∙ ap (λ l. l ++ new_client_of s ∷ []) g.are_new_clients ∙ ap (λ y. new_clients ++ y ∷ []) is;
  are_after = map-append after_of g.served (s ∷ []) ∙ ap (λ l. l ++ s.after ∷ []) g.are_after ∙ ap (λ y. afters ++ y ∷ []) after;
  each = All-push (IsServed limit) g.served s g.each served;
  same_number = same ∙ g.same_number;
  absorbed = absorbed ∙ ap (λ l. ended q ++ number o ∷ l) none ∙ ap (λ l. l ++ number o ∷ []) g.absorbed
      ∙ append_assoc (ended p) (map number_of new_clients) (number o ∷ [])
      ∙ ap (λ n. ended p ++ (map number_of new_clients ++ n ∷ [])) (num ∙ ap number_of is)
      ∙ ap (λ l. ended p ++ l) (sym (map-append number_of new_clients (x ∷ [])));
  put = puts ∙ ap (λ l. l ++ put_by o) g.put ∙ append_assoc (put_by p) (put_for_all g.served) (put_by o)
      ∙ ap (λ l. put_by p ++ (put_for_all g.served ++ l)) (put ∙ sym (append-nil (put_for s)))
      ∙ ap (λ l. put_by p ++ l) (sym (flat_map-append put_for g.served (s ∷ [])));
  ends = one_end g.served s status status' g.ends status_is;
  own_ends = λ no. All-push IsOwnEnd g.served s (g.own_ends (or_parts over (is_over s.end) (sym over_is ∙ no)).0) (or_parts over (is_over s.end) (sym over_is ∙ no)).1;
}

-- ---- the quit

module _ (limit : ℕ) (new_clients : List NewClient) (afters : List SeenClient) (old mid : CallerPass) (status : Status) (over : Bool) (g : Gathers limit new_clients afters old mid status over) where
  pub not_closed : Closes limit new_clients afters old mid status
  not_closed = record { mid = mid; over = over; gathers = g; tail = []; closes = inl refl; puts = puts-none mid; calm = λ _. refl }

  pub has_closed : (new : CallerPass) → over ≡ false → putting.Closes mid new → Closes limit new_clients afters old new status
  has_closed new isnt c = record {
    mid = mid;
    over = over;
    gathers = g;
    tail = c.0;
    closes = c.1;
    puts = c.2;
    calm = λ is. absurd (true≢false (sym is ∙ isnt));
  }

-- so many passes were absorbed
pub closed_ended : (limit : ℕ) (new_clients : List NewClient) (afters : List SeenClient) (old new : CallerPass) (status : Status) → Closes limit new_clients afters old new status → ended old ≡ [] → length (ended new) ≡ length new_clients
closed_ended limit new_clients afters old new status k none =
    ap length (k.puts.same_ended ∙ k.gathers.absorbed ∙ ap (λ l. l ++ map number_of new_clients) none) ∙ length-map new_clients number_of

-- ---- the next client of a client_list

abbrev or_this : ClientList → Option ClientList → ClientList
or_this d None = d
or_this d (Some h) = h

pub same_client_list : (client_list : Option ClientList) (a b : ClientList) → client_list ≡ Some a → client_list ≡ Some b → a ≡ b
same_client_list client_list a b is also = ap (or_this a) (sym is ∙ also)

pub next_gathered : (client_list : Option ClientList) (there : ClientList) (first q q' o : CallerPass) (place : ℕ) (afters : List SeenClient) (r : SeenClient) (status status' : Status) (over over' : Bool) (end : InputEnd)
    → IsAnswer client_list place r o end → client_list ≡ Some there → Gathers there.limit (take place there.new_clients) afters first q status over
    → number q' ≡ number q → ended q' ≡ ended q ++ number o ∷ ended o → put_by q' ≡ put_by q ++ put_by o
    → status' ≡ least (of_client end ∷ status ∷ []) → over' ≡ (over || is_over end)
    → Gathers there.limit (take (place + 1) there.new_clients) (afters ++ r ∷ []) first q' status' over'
next_gathered client_list there first q q' o place afters r status status' over over' how a known g n e p st ov =
    let same : a.there ≡ there = same_client_list client_list a.there there a.is_client_list known in
    let at : new_client_at there.new_clients place ≡ Some (new_client_of a.served) = subst (λ h. new_client_at h.new_clients place ≡ Some (new_client_of a.served)) same a.is_new_client in
    subst (λ l. Gathers there.limit l (afters ++ r ∷ []) first q' status' over') (sym (new_client_taken there.new_clients place (new_client_of a.served) at))
    (one_gathered there.limit (take place there.new_clients) (new_client_of a.served) afters r first q q' o status status' over over' g a.served refl a.is_after
    (subst (λ h. IsServed h.limit a.served) same a.is_served) a.is_number a.none_ended a.is_put n e p
    (st ∙ ap (λ x. least (of_client x ∷ status ∷ [])) (sym a.is_end)) (ov ∙ ap (λ x. over || is_over x) (sym a.is_end)))

-- all of them
pub all_gathered : (there : ClientList) (first q : CallerPass) (place : ℕ) (afters : List SeenClient) (status : Status) (over : Bool) → length there.new_clients ≡ place
    → Gathers there.limit (take place there.new_clients) afters first q status over → Gathers there.limit there.new_clients afters first q status over
all_gathered there first q place afters status over all g =
    subst (λ l. Gathers there.limit l afters first q status over) (ap (λ n. take n there.new_clients) (sym all) ∙ take-length there.new_clients) g
