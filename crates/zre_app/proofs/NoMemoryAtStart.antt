-- A call that found no memory at its start.
use Rattle.std.proofs.Common.{ℕ, false, List, [], Option, Some, None, refl, arith}
use Rattle.std.proofs.KnownBytes.{Appends-nil, Consumes-nil}
use Rattle.zre_commands.specs.pump.Meaning.{Meaning, whole_text}
use Rattle.zre_commands.specs.pump.Outcome.{Pumped}
use Rattle.zre_commands.specs.declared.pump.status.Status.TheVariants as statuses
use Rattle.zre_console.specs.Lived.{Seen}
use Rattle.zre_console.proofs.LeastStatus.{memory_isnt}
use Rattle.zre_console.proofs.EndBeforeStart.{none_started}
use Rattle.zre_chat.proofs.ChatOfParts.{unstarted}
use Rattle.zre_app.specs.declared.command.Command.{Command}
use Rattle.zre_app.specs.declared.command.Command.TheVariants.{Plain, Chat}
use Rattle.zre_app.specs.declared.plain_words.Plain.{Plain as PlainCommand}
use Rattle.zre_app.specs.Does.{Work, DoesWork, work_of, DoesPlain, Does, DidPlain, Did}
use Rattle.zre_app.specs.Does.Work.{Reads, Writes}
use Rattle.zre_app.specs.Streams.{Streams, streams, streams_of}
use Rattle.zre_chat.specs.Views.{StreamViews, Handed, Views, seen_of}
use Rattle.zre_app.specs.Usage.{usage_line}

-- it has taken no octets and written nothing
pub nothing_taken : (limit : ℕ) (m : Meaning) (left taken written : Option (List ℕ)) (read write : Type 0)
    → Pumped statuses.OutOfMemory limit m left left taken taken written written read write
nothing_taken limit m left taken written read write = record {
  octets = [];
  moved = record { consumed = Consumes-nil left; recorded = Appends-nil taken };
  within = omega arith;
  outcome = ([], whole_text m [], refl, Appends-nil written);
}

nothing_worked : (w : Work) (limit : ℕ) (s : Streams) → DoesWork w limit statuses.OutOfMemory s s
nothing_worked (Reads m) limit s = nothing_taken limit m s.left s.taken s.written _ _
nothing_worked (Writes text) limit s = ([], text, refl, Appends-nil s.written)

nothing_plain : (p : Option PlainCommand) (limit : ℕ) (s : Streams) → DoesPlain p limit statuses.OutOfMemory s s
nothing_plain None limit s = ([], usage_line, refl, Appends-nil s.written)
nothing_plain (Some p) limit s = nothing_worked (work_of p) limit s

nothing_done : (c : Option Command) (limit : ℕ) (s : Seen) → Does c limit statuses.OutOfMemory s s
nothing_done None limit s = nothing_plain None limit (streams_of s)
nothing_done (Some (Plain p)) limit s = nothing_plain (Some p) limit (streams_of s)
nothing_done (Some (Chat c)) limit s =
    unstarted c.config c.start c.capture limit false s s statuses.OutOfMemory (λ isnt. absurd (isnt refl)) refl refl refl (none_started s.told)
    memory_isnt tt (λ file named isnt still. absurd (isnt refl))

-- so it did what a command does then
pub nothing_did_plain : {I O : Type 0} (v : StreamViews I O) (p : Option PlainCommand) (limit : ℕ) (input : I) (out : O)
    → DidPlain v p limit statuses.OutOfMemory input input out out
nothing_did_plain v p limit input out = record {
  does = nothing_plain p limit (streams v input out);
  reads = omega arith;
  writes = omega arith;
  unread = λ _. refl;
}

pub nothing_did : {I W O R P : Type 0} (v : Views I W O R P) (c : Option Command) (limit : ℕ) (h : Handed I W O R P)
    → Did v c limit statuses.OutOfMemory h h
nothing_did v c limit h = record {
  does = nothing_done c limit (seen_of v h);
  reads = omega arith;
  writes = omega arith;
  unread = λ _. refl;
  unrecorded = λ _. refl;
  world = λ _. refl;
  spawner = λ _. refl;
}
