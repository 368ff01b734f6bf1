-- Frames of messages after READY.
use Rattle.std.proofs.Common.{◌≡◌, ℕ, true, List, None, refl}
use Rattle.zre_zmtp.specs.declared.expected.Expected.{Expected}
use Rattle.zre_zmtp.specs.declared.expected.Expected.TheVariants as expect
use Rattle.zre_zmtp.specs.Frame.{is_message}
use Rattle.zre_zmtp.specs.Stream.{Want, Before, body_fault}
use Rattle.zre_zmtp.specs.Shown.{is_content}

are_messages : (e : Expected) (f : ℕ) → is_content e f ≡ true → is_message f ≡ true
are_messages expect.Greeting f i = absurd cc
are_messages expect.Ready f i = absurd cc
are_messages expect.Traffic f i = i

-- their bodies have no fault
pub content_is_faultless : (want : Want) (b : Before) (f : ℕ) (o : List ℕ) → is_content b.expected f ≡ true → body_fault want b f o ≡ None
content_is_faultless want b f o i = let m = are_messages b.expected f i in rw m refl
