-- How each message of the exercise is spelled, and where the draws stand after its content.
use Rattle.std.proofs.Common.{◌≡◌, ℕ, ◌+◌, ◌%◌, [], ◌∷◌, ◌++◌, length, codes, refl}
use Rattle.zre_values.specs.Framing.{frame}
use Rattle.zre_msg.specs.Spelling.{head, string}
use Rattle.zre_capture.specs.Draws.{after_draws, octets_drawn}
use Rattle.zre_capture.specs.Exercise.{status, body, after_content, spelling}

pub join_spelled : (k x : ℕ) → k % 4 ≡ 0 → spelling k x ≡ frame 0 (head 4 ((2 + k) % 65536) ++ (string (codes "all") ++ status k ∷ []))
unfolding spelling body
join_spelled k x e = rw e refl

pub shout_spelled : (k x : ℕ) → k % 4 ≡ 1 → spelling k x ≡ frame 1 (head 3 ((2 + k) % 65536) ++ string (codes "all")) ++ frame 0 (octets_drawn 8 x)
unfolding spelling body
shout_spelled k x e = rw e refl

pub whisper_spelled : (k x : ℕ) → k % 4 ≡ 2 → spelling k x ≡ frame 1 (head 2 ((2 + k) % 65536)) ++ frame 0 (octets_drawn 8 x)
unfolding spelling body
whisper_spelled k x e = rw e refl

pub leave_spelled : (k x : ℕ) → k % 4 ≡ 3 → spelling k x ≡ frame 0 (head 5 ((2 + k) % 65536) ++ (string (codes "all") ++ status k ∷ []))
unfolding spelling body
leave_spelled k x e = rw e refl

-- a content of eight draws has 32 octets
content_length : (x : ℕ) → length (octets_drawn 8 x) ≡ 32
unfolding octets_drawn
content_length x = refl

pub content_framed : (x : ℕ) → frame 0 (octets_drawn 8 x) ≡ 0 ∷ 32 ∷ octets_drawn 8 x
content_framed x = rw (content_length x) refl

pub still_after : (k x : ℕ) → k % 4 ≡ 0 → after_content k x ≡ x
unfolding after_content
still_after k x e = rw e refl

pub still_after_leave : (k x : ℕ) → k % 4 ≡ 3 → after_content k x ≡ x
unfolding after_content
still_after_leave k x e = rw e refl

pub drawn_after_shout : (k x : ℕ) → k % 4 ≡ 1 → after_content k x ≡ after_draws 8 x
unfolding after_content
drawn_after_shout k x e = rw e refl

pub drawn_after_whisper : (k x : ℕ) → k % 4 ≡ 2 → after_content k x ≡ after_draws 8 x
unfolding after_content
drawn_after_whisper k x e = rw e refl
