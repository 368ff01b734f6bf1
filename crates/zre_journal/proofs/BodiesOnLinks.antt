-- The bodies of the messages in a link's line, mark by mark.
use Rattle.std.proofs.Common.{◌≡◌, ℕ, Bool, true, false, cond, eqb, List, [], ◌∷◌, ◌++◌, Option, Some, None, refl, ap, ◌∙◌}
use Rattle.zre_msg.specs.declared.message.Body.{Body}
use Rattle.zre_link.specs.Text.{Member, Says, Pongs, bodies_in}
use Rattle.zre_link.proofs.AppendedMembers.{bodies-more, bodies-pongs}
use Rattle.zre_journal.specs.Chronicle.{Mark, Puts, PutsPong, each, followed}
use Rattle.zre_journal.specs.Links.{line, bodies}

abbrev pub body_on : ℕ → Mark → Option Body
body_on l (Puts k b) = cond (eqb l k) (Some b) None
body_on l _ = None

abbrev pub bodies_on : ℕ → List Mark → List Body
bodies_on l H = each (body_on l) H

says_more : (b : Body) (ms : List Member) (bs : List Body) (t : Bool) → bodies_in ms ≡ bs → bodies_in (followed ms (cond t (Some (Says b)) None)) ≡ followed bs (cond t (Some b) None)
says_more b ms bs true e = bodies-more ms b ∙ ap (λ (xs : List Body). xs ++ b ∷ []) e
says_more b ms bs false e = e

pongs_more : (c : List ℕ) (ms : List Member) (bs : List Body) (t : Bool) → bodies_in ms ≡ bs → bodies_in (followed ms (cond t (Some (Pongs c)) None)) ≡ bs
pongs_more c ms bs true e = bodies-pongs ms (c ∷ []) ∙ e
pongs_more c ms bs false e = e

pub are_bodies : (l : ℕ) (H : List Mark) → bodies l H ≡ bodies_on l H
are_bodies l [] = refl
are_bodies l (Puts k b ∷ H) = says_more b (line l H) (bodies_on l H) (eqb l k) (are_bodies l H)
are_bodies l (PutsPong k c ∷ H) = pongs_more c (line l H) (bodies_on l H) (eqb l k) (are_bodies l H)
are_bodies l (_ ∷ H) = are_bodies l H
