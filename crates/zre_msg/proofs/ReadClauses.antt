-- The clauses of a read, from the two laws.
use Rattle.std.proofs.Common.{◌≡◌, ℕ, ◌^◌, ◌<◌, List, [], ◌∷◌, length, get_or, Result, Ok, Err, IfOk, subst, arith, inl, inr}
use Rattle.std.specs.List.{All}
use Rattle.std.proofs.lemmas.Bool.{cases_lt}
use Rattle.std.proofs.lemmas.List.{get_or_past}
use Rattle.std.proofs.lemmas.List.Elements.{All-get_or}
use Rattle.zre_msg.specs.declared.message.Bad.{Bad}
use Rattle.zre_msg.specs.declared.message.Message.{Message}
use Rattle.zre_msg.specs.declared.message.ReadFault.{ReadFault}
use Rattle.zre_msg.specs.Spelling.{Means}
use Rattle.zre_msg.specs.Reading.{Answers, command_of, read_frames, read_of}
use Rattle.zre_msg.proofs.MeansIsRead.{read-means}
use Rattle.zre_msg.proofs.ReadIsSpelled.{IsBytes, read-takes}

-- a message that was read is spelled by the frames
pub Answers-found : (first : List ℕ) (more : List (List ℕ)) (r : Result Message ReadFault) → IsBytes first → Answers r (read_of first more) → IfOk r (λ m. Means (first ∷ more) m)
Answers-found first more (Ok m) fits g = read-takes first more m fits g
Answers-found first more (Err e) fits g = tt

-- a message that the frames spell is the one that was read
pub Answers-only : (first : List ℕ) (more : List (List ℕ)) (r : Result Message ReadFault) (m : Message) → Means (first ∷ more) m → Answers r (read_of first more) → Answers r (Ok m)
Answers-only first more r m means g = subst (λ (x : Result Message Bad). Answers r x) (read-means (first ∷ more) m means) g

-- a list of octets, place by place
octets_are : (o : List ℕ) → All (λ b. b < 2 ^ 8) o → IsBytes o
octets_are o h i =
    elim (cases_lt i (length o)) [
      | inl lt ↦ omega (arith, All-get_or (λ b. b < 2 ^ 8) o i 0 lt h)
      | inr le ↦ rw (get_or_past o i 0 le) (omega arith)
    ]

-- what is read of frames is what they mean
pub read-meant : (frames : List (List ℕ)) (m : Message) → All (λ b. b < 2 ^ 8) (get_or frames 0 []) → read_frames frames ≡ Ok m → Means frames m
unfolding read_of command_of
read-meant [] m h e = absurd cc
read-meant (first ∷ more) m h e = read-takes first more m (octets_are first h) e
