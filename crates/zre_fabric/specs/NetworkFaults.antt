-- What a world answers where a call of the network ended early.
use Rattle.zre_outside.specs.declared.sink.NextFault.{NextFault}
use Rattle.zre_outside.specs.declared.sink.NextFault.TheVariants as fault
use Rattle.zre_fabric.specs.declared.network_fault.NetworkFault.{NetworkFault}
use Rattle.zre_fabric.specs.declared.network_fault.NetworkFault.TheVariants as network_fault

-- the system's refusals as Failed, memory by itself
abbrev pub fault_of : NetworkFault → NextFault
fault_of (network_fault.Failed reason) = fault.Failed
fault_of network_fault.OutOfMemory = fault.OutOfMemory
