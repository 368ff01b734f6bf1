-- What is wrong with a header, by what there is of it.
use Rattle.std.proofs.Common.{◌≡◌, ◌≤◌, Bool, true, List, [], ◌∷◌, length, Option, Some, None, refl, sym, ap, ◌∙◌, arith, ℕ}
use Rattle.std.specs.Option.{option_or}
use Rattle.std.proofs.lemmas.Bool.{le-leb}
use Rattle.std.proofs.lemmas.Option.{cond_some}
use Rattle.zre_zmtp.specs.declared.fault.ZmtpWhy.{ZmtpWhy}
use Rattle.zre_zmtp.specs.declared.header.Header.{Header}
use Rattle.zre_zmtp.specs.Frame.{flags, size, has_header, header_of}
use Rattle.zre_zmtp.specs.Stream.{Before, once, flags_fault, size_fault}
use Rattle.zre_zmtp.specs.Shown.{header_fault}
use Rattle.zre_zmtp.proofs.FrameFaults.{no_header}

-- what is told, by whether the flags octet and all of the header are there, and by what is wrong with each
abbrev told : Bool → Bool → Option ZmtpWhy → Option ZmtpWhy → Option ZmtpWhy
told some all x y = option_or (once some x) (once all y)

-- no octet is there
pub none_there : (b : Before) (o : List ℕ) → length o ≡ 0 → None ≡ header_fault b o
none_there b [] none = refl
none_there b (x ∷ o) none = absurd (omega (arith, none))

-- the flags are wrong
pub flags_wrong : (b : Before) (o : List ℕ) (why : ZmtpWhy) → 1 ≤ length o → flags_fault b (flags o) ≡ Some why → Some why ≡ header_fault b o
flags_wrong b o why some is =
    let x = flags_fault b (flags o) in
    let y = size_fault b (flags o) (size o) in
    sym (ap (λ (t : Bool). told t (has_header o) x y) (le-leb 1 (length o) some) ∙ ap (λ (f : Option ZmtpWhy). told true (has_header o) f y) is)

-- they are not, and the size is there
pub size_there : (b : Before) (o : List ℕ) (h : Header) (r : Option ZmtpWhy) → 1 ≤ length o → flags_fault b (flags o) ≡ None → header_of o ≡ Some h → r ≡ size_fault b h.flags h.size → r ≡ header_fault b o
size_there b o h r some fine there is =
    let p = cond_some (has_header o) (record { flags = flags o; size = size o }) h there in
    let x = flags_fault b (flags o) in
    let y = size_fault b (flags o) (size o) in
    let named : size_fault b h.flags h.size ≡ y = ap (λ (s : Header). size_fault b s.flags s.size) (sym p.1) in
    is ∙ named
    ∙ sym (ap (λ (t : Bool). told t (has_header o) x y) (le-leb 1 (length o) some)
    ∙ ap (λ (f : Option ZmtpWhy). told true (has_header o) f y) fine
    ∙ ap (λ (t : Bool). told true t None y) p.0)

-- they are not, and the size isn't there
pub size_missing : (b : Before) (o : List ℕ) → 1 ≤ length o → flags_fault b (flags o) ≡ None → header_of o ≡ None → None ≡ header_fault b o
size_missing b o some fine missing =
    let x = flags_fault b (flags o) in
    let y = size_fault b (flags o) (size o) in
    sym (ap (λ (t : Bool). told t (has_header o) x y) (le-leb 1 (length o) some)
    ∙ ap (λ (f : Option ZmtpWhy). told true (has_header o) f y) fine
    ∙ ap (λ (t : Bool). told true t None y) (no_header o missing))

-- not all of the header is there: what is wrong is what is wrong with the flags
pub header_missing : (b : Before) (o : List ℕ) (r : Option ZmtpWhy) → 1 ≤ length o → header_of o ≡ None → r ≡ flags_fault b (flags o) → r ≡ header_fault b o
header_missing b o None some missing is = size_missing b o some (sym is) missing
header_missing b o (Some why) some missing is = flags_wrong b o why some (sym is)
