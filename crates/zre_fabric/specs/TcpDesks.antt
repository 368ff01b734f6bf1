-- What a desk over a listener tells.
use Rattle.std.specs.Prelude.{ℕ, Option, None}
use Rattle.std.specs.declared.io.Error.{Error}
use Rattle.std.specs.declared.net.TcpStream.{TcpStream}
use Rattle.zre_outside.specs.declared.adapters.Adapter.{Adapter}
use Rattle.zre_outside.specs.Desks.{Register}
use Rattle.zre_fabric.specs.declared.bell.Ringing.{Ringing}
use Rattle.zre_fabric.specs.declared.heeding.Heeding.{Heeding}
use Rattle.zre_fabric.specs.declared.tcp_desk.TcpDesk.{TcpDesk}

-- it tells nothing of what it gave
abbrev pub tcp_told_of : {R : Type 0} → TcpDesk R → Option (Register (Ringing (Heeding (Adapter TcpStream))))
tcp_told_of d = None

-- how often it failed, and why the last time
abbrev pub tcp_faults_of : {R : Type 0} → TcpDesk R → ℕ
tcp_faults_of d = d.faults.count

abbrev pub tcp_reason_of : {R : Type 0} → TcpDesk R → Option Error
tcp_reason_of d = d.faults.reason
