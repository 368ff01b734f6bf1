-- The frames of a message, after a stream that awaits one.
use Rattle.std.proofs.Common.{◌≡◌, ℕ, zero, suc, ◌+◌, ◌≤◌, List, [], ◌∷◌, ◌++◌, length, take, drop, Some, refl, sym, ap, subst, ◌∙◌, arith, inl, inr}
use Rattle.std.proofs.lemmas.List.{length-append, length-take-le, length-drop, append-nil}
use Rattle.zre_values.specs.Framing.{frames}
use Rattle.zre_zmtp.specs.declared.item.What.TheVariants.{Message}
use Rattle.zre_zmtp.specs.declared.expected.Expected.TheVariants as expect
use Rattle.zre_zmtp.specs.Stream.{Want, Before, Kind, Parts, before, place, opened, start, part_len, cut, split}
use Rattle.zre_zmtp.specs.Run.{Found, with_item, run_all}
use Rattle.zre_zmtp.specs.Laws.{AwaitsMessage, IsWithinLimits, ReadsMessage}
use Rattle.zre_zmtp.proofs.FaultsStay.{part_len-bounds}
use Rattle.zre_zmtp.proofs.OctetsCutIntoParts.{cases_Option, cut-none, cut-some}
use Rattle.zre_zmtp.proofs.ReadersFollowStreams.{Follows, follows, fault-follows}
use Rattle.zre_zmtp.proofs.TurnsOfReaders.{no_part, no_octets}
use Rattle.zre_zmtp.proofs.OctetsCutIntoParts.{run-none}
use Rattle.zre_zmtp.proofs.SpelledFrames.{traffic, message_read}

-- the parts and what is after them are all of the octets
place-cut : (want : Want) (kind : Kind) (n : ℕ) (parts : Parts) (o : List ℕ) → place (cut want kind n parts o).0 + length (cut want kind n parts o).1 ≡ place parts + length o
unfolding cut
place-cut want kind zero parts o = refl
place-cut want kind (suc n) parts o =
    elim (cases_Option (part_len want (before kind parts) o)) [
      | inl e ↦ rw (cut-none want kind (suc n) parts o e) refl
      | inr p ↦ (let within : p.0 ≤ length o = (part_len-bounds want (before kind parts) o p.0 p.1).1 in
          let ih = place-cut want kind n (take p.0 o ∷ parts) (drop p.0 o) in
          rw (cut-some want kind n parts o p.0 p.1) (omega (arith, ih, within, length-take-le p.0 o within, length-drop p.0 o)))
    ]

start-place : (kind : Kind) (parts : Parts) → opened kind parts ≡ [] → start kind parts ≡ place parts
start-place kind [] e = refl
start-place kind (part ∷ parts) e = rw e refl

-- what is known of a stream that awaits a message
before-message : (want : Want) (kind : Kind) (o : List ℕ) → AwaitsMessage want kind o → before kind (split want kind o).0 ≡ traffic (length o) [] (length o)
before-message want kind o a =
    let parts = (split want kind o).0 in
    let at : place parts ≡ length o = (let all = place-cut want kind (length o) [] o in omega (arith, all, ap length a.at_rest.nothing_left)) in
    ap (λ e. let b : Before = record { expected = e; place = place parts; opened = opened kind parts; start = start kind parts } in b) a.in_traffic
    ∙ ap (λ s. let b : Before = record { expected = expect.Traffic; place = place parts; opened = opened kind parts; start = s } in b) (start-place kind parts a.at_rest.nothing_open)
    ∙ ap (λ l. let b : Before = record { expected = expect.Traffic; place = place parts; opened = l; start = place parts } in b) a.at_rest.nothing_open
    ∙ ap (λ k. traffic k [] k) at

found_message : (want : Want) (kind : Kind) (o x : List ℕ) (more : List (List ℕ)) → AwaitsMessage want kind o → IsWithinLimits (x ∷ more)
    → let end = length (o ++ frames (x ∷ more)) in
    let s = split want kind o in
    run_all want (before kind s.0) (s.1 ++ frames (x ∷ more)) ≡ record { given = record { start = length o; end = end; what = Message (x ∷ more) } ∷ []; before = traffic end [] end; left = [] }
found_message want kind o x more a w =
    let m = x ∷ more in
    let n = length o in
    let s = split want kind o in
    let end : n + length (frames m) ≡ length (o ++ frames m) = sym (length-append o (frames m)) in
    ap (λ b. run_all want b (s.1 ++ frames m)) (before-message want kind o a)
    ∙ ap (λ (l : List ℕ). run_all want (traffic n [] n) (l ++ frames m)) a.at_rest.nothing_left
    ∙ ap (λ (l : List ℕ). run_all want (traffic n [] n) l) (sym (append-nil (frames m)))
    ∙ message_read want n n [] x more [] (omega (arith, w.frames)) (omega (arith, w.octets))
    ∙ ap (λ k. with_item (Some (record { start = n; end = k; what = Message m })) (run_all want (traffic k [] k) [])) end
    ∙ ap (λ f. with_item (Some (record { start = n; end = length (o ++ frames m); what = Message m })) f) (run-none want 0 (traffic (length (o ++ frames m)) [] (length (o ++ frames m))) [] (no_part want (traffic (length (o ++ frames m)) [] (length (o ++ frames m)))))

pub message_is_read : (want : Want) (kind : Kind) (o : List ℕ) (m : List (List ℕ)) → AwaitsMessage want kind o → IsWithinLimits m → ReadsMessage want kind o m
message_is_read want kind o [] a w = absurd (omega (arith, w.some))
message_is_read want kind o (x ∷ more) a w =
    let m = x ∷ more in
    let s = split want kind o in
    let end = length (o ++ frames m) in
    let found = found_message want kind o x more a w in
    let f : Follows want kind o (frames m) (record { given = record { start = length o; end = end; what = Message m } ∷ []; before = traffic end [] end; left = [] }) =
    subst (λ (y : Found). Follows want kind o (frames m) y) found (follows want kind o (frames m)) in
    record {
      read = f.all;
      awaits = record {
        at_rest = record { nothing_left = sym f.left; nothing_open = sym (ap (λ (b : Before). b.opened) f.before) };
        faultless = sym (fault-follows want kind o (frames m) _ f) ∙ no_octets want expect.Traffic (traffic end [] end);
        in_traffic = sym (ap (λ (b : Before). b.expected) f.before);
      };
    }
