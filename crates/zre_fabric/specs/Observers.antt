-- What an object that tells an observer is made of.
use Rattle.zre_fabric.specs.declared.observed.Observed.{Observed}

-- what does the work
abbrev pub under : {T O : Type 0} → Observed T O → T
under o = o.inner

-- what is told
abbrev pub observer_of : {T O : Type 0} → Observed T O → O
observer_of o = o.observer
