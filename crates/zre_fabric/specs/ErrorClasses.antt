-- What an error of the listener or of the socket for beacons means for it.
use Rattle.std.specs.Prelude.{ℤ, Bool, true, false, ◌||◌, Option, Some, None, pos, if◌then◌else◌}
use Rattle.std.specs.Ordering.{int_eq}
use Rattle.std.specs.declared.io.ErrorKind.{ErrorKind}
use Rattle.std.specs.declared.io.ErrorKind.TheVariants as kind
use Rattle.zre_fabric.specs.declared.errors.ErrorClass.{ErrorClass}
use Rattle.zre_fabric.specs.declared.errors.ErrorClass.TheVariants as class

-- kinds of what concerns one connection or datagram, and the lack of memory
abbrev pub is_passing : ErrorKind → Bool
is_passing kind.Interrupted = true
is_passing kind.ConnectionAborted = true
is_passing kind.ConnectionRefused = true
is_passing kind.ConnectionReset = true
is_passing kind.TimedOut = true
is_passing kind.PermissionDenied = true
is_passing kind.NetworkDown = true
is_passing kind.NetworkUnreachable = true
is_passing kind.HostUnreachable = true
is_passing kind.OutOfMemory = true
is_passing _ = false

-- numbers of Linux for the same that have no kind of their own, or another one: 23 ENFILE, 24 EMFILE, 64 ENONET,
-- 71 EPROTO, 92 ENOPROTOOPT, 95 EOPNOTSUPP, 105 ENOBUFS and 112 EHOSTDOWN
abbrev pub is_passing_number : Option ℤ → Bool
is_passing_number None = false
is_passing_number (Some n) =
    int_eq n (pos 23) || int_eq n (pos 24) || int_eq n (pos 64) || int_eq n (pos 71) || int_eq n (pos 92)
    || int_eq n (pos 95) || int_eq n (pos 105) || int_eq n (pos 112)

abbrev pub class_by : ErrorKind → Option ℤ → ErrorClass
class_by kind.WouldBlock number = class.NotReady
class_by k number = if is_passing k || is_passing_number number then class.Transient else class.Fatal

-- the process, or the system, is short of what a socket needs: ENFILE, EMFILE, ENOBUFS, or memory
abbrev pub is_short_by : ErrorKind → Option ℤ → Bool
is_short_by kind.OutOfMemory number = true
is_short_by k None = false
is_short_by k (Some n) = int_eq n (pos 23) || int_eq n (pos 24) || int_eq n (pos 105)
