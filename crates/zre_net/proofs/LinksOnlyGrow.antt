-- What was put on a link stays, and more comes later it.
use Rattle.std.proofs.Common.{◌≡◌, ℕ, ◌+◌, ◌%◌, ◌^◌, List, [], ◌∷◌, ◌++◌, Option, Some, None, refl, sym, ap, ◌∙◌, append_assoc, append-nil}
use Rattle.zre_msg.specs.declared.message.Body.{Body}
use Rattle.zre_outside.specs.declared.entry.Entry.{Entry}
use Rattle.zre_link.specs.Text.{Member, Says, Pongs, bodies_in, numbered_from}
use Rattle.zre_values.specs.declared.settings.Settings.{Settings as Config}
use Rattle.zre_journal.specs.Chronicle.{Mark, Comes, after, followed}
use Rattle.zre_journal.specs.Events.{chronicle}
use Rattle.zre_journal.specs.Happens.{marks, with_entry}
use Rattle.zre_journal.specs.Links.{line, bodies, put_on}
use Rattle.zre_journal.proofs.JoinedEntries.{continues}
use Rattle.zre_net.specs.History.{journal, entry_of, chronicle_of}
use Rattle.zre_msg.specs.declared.message.Message.{Message}
use Rattle.zre_net.specs.History.{Happening}
use Rattle.zre_net.specs.Numbers.{Route, queued_on}

abbrev IsFront : {A : Type 0} → List A → List A → Type 0
IsFront {A = A} xs ys = (more : List A) × (ys ≡ xs ++ more)

same : {A : Type 0} (xs : List A) → IsFront xs xs
same xs = ([], sym (append-nil xs))

longer : {A : Type 0} (xs ys zs : List A) → IsFront xs ys → IsFront ys zs → IsFront xs zs
longer xs ys zs p q = (p.0 ++ q.0, q.1 ∙ ap (λ ws. ws ++ q.0) p.1 ∙ append_assoc xs p.0 q.0)

one_more : {A : Type 0} (xs : List A) (o : Option A) → IsFront xs (followed xs o)
one_more xs None = same xs
one_more xs (Some a) = (a ∷ [], refl)

by_marks : (l : ℕ) (hs H : List Mark) → IsFront (line l H) (line l (after hs H))
by_marks l [] H = same (line l H)
by_marks l (h ∷ hs) H = longer (line l H) (line l (h ∷ H)) (line l (after hs (h ∷ H))) (one_more (line l H) (put_on l h)) (by_marks l hs (h ∷ H))

by_entry : (g : Config) (l : ℕ) (e : Entry) (H : List Mark) → IsFront (line l H) (line l (with_entry g e H))
by_entry g l e H = by_marks l (marks g e H) (Comes e ∷ H)

numbered_front : (n : ℕ) (xs more : List Body) → IsFront (numbered_from n xs) (numbered_from n (xs ++ more))
numbered_front n [] more = (numbered_from n more, refl)
numbered_front n (x ∷ xs) more = let p = numbered_front (n + 1) xs more in (p.0, ap (λ ms. record { sequence = n % 2 ^ 16; body = x } ∷ ms) p.1)

numbered_fronts : (xs ys : List Body) → IsFront xs ys → IsFront (numbered_from 1 xs) (numbered_from 1 ys)
numbered_fronts xs ys p = let q = numbered_front 1 xs p.0 in (q.0, ap (λ bs. numbered_from 1 bs) p.1 ∙ q.1)

-- of the messages among members, as many
bodies_grow : (ms ks : List Member) → bodies_in (ms ++ ks) ≡ bodies_in ms ++ bodies_in ks
bodies_grow [] ks = refl
bodies_grow (Says b ∷ ms) ks = ap (λ bs. b ∷ bs) (bodies_grow ms ks)
bodies_grow (Pongs t ∷ ms) ks = bodies_grow ms ks

of_members : (ms ks : List Member) → IsFront ms ks → IsFront (bodies_in ms) (bodies_in ks)
of_members ms ks p = (bodies_in p.0, ap bodies_in p.1 ∙ bodies_grow ms p.0)

later : (g : Config) (l : ℕ) (J : List Entry) (o : Option Entry) → IsFront (line l (chronicle g J)) (line l (chronicle g (followed J o)))
later g l J None = same (line l (chronicle g J))
later g l J (Some e) =
    let p = by_entry g l e (chronicle g J) in
    (p.0, ap (λ K. line l K) (continues g J (e ∷ [])).happened ∙ p.1)

pub links_grow : (s : Route) (h : Happening) (H : List Happening) → (more : List Message) × (queued_on s (h ∷ H) ≡ queued_on s H ++ more)
links_grow s h H =
    numbered_fronts (bodies s.link (chronicle_of s.from H)) (bodies s.link (chronicle_of s.from (h ∷ H)))
    (of_members (line s.link (chronicle_of s.from H)) (line s.link (chronicle_of s.from (h ∷ H))) (later s.from.settings s.link (journal s.from H) (entry_of s.from h)))
