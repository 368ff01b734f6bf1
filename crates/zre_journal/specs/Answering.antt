-- What is answered on a connection: the greeting, and then READY to its greeting and PONG to each PING.
use Rattle.std.specs.Prelude.{◌≡◌, ℕ, true, false, List, [], ◌∷◌, ◌++◌, Option, Some, None, nat_eq}
use Rattle.std.specs.List.{filter_map}
use Rattle.zre_zmtp.specs.declared.writing.SocketType.TheVariants as socket
use Rattle.zre_zmtp.specs.Written.{own_greeting, ready_frame, pong_frame}
use Rattle.zre_mailbox.specs.declared.arrival.Arrival.TheVariants as arrival
use Rattle.zre_mailbox.specs.Talk.{Said, Arrived, talk}
use Rattle.zre_outside.specs.declared.act.Act.{Act}
use Rattle.zre_outside.specs.declared.act.Act.TheVariants as act
use Rattle.zre_outside.specs.declared.entry.Entry.{Entry}
use Rattle.zre_values.specs.declared.settings.Settings.{Settings as Config}
use Rattle.zre_journal.specs.Causes.{where_so}
use Rattle.zre_journal.specs.Chronicle.{Mark}
use Rattle.zre_journal.specs.Connections.{is_live}
use Rattle.zre_journal.specs.Events.{chronicle, acts}
use Rattle.zre_journal.specs.Heard.{was_opened, bytes}

abbrev pub answer_on : ℕ → Act → Option (List ℕ)
answer_on c (act.Answer d octets) = where_so (nat_eq c d) octets
answer_on c _ = None

-- what these acts answer on c, one answer after the other
abbrev pub answered_on : ℕ → List Act → List (List ℕ)
answered_on c done = filter_map (answer_on c) done

-- what is answered to what is said: READY to a greeting, and PONG to a PING, with its context (RFC 37, heartbeats)
abbrev pub answer_due : Said → Option (List ℕ)
answer_due (Arrived arrival.Greeted) = Some (ready_frame socket.Router None)
answer_due (Arrived (arrival.Ping t)) = Some (pong_frame t)
answer_due _ = None

-- the same to all that the octets of c say
abbrev pub answers_due : Config → ℕ → List Mark → List (List ℕ)
answers_due g c H = filter_map answer_due (talk g.id (bytes c H))

-- Nothing is answered on a connection before it is opened. Then the greeting is, and after it what is due to what its
-- octets say, in that order, each once: all of it while it is live, and from then on a front of it.
pub record AnswersInTurn (g : Config) (J : List Entry) : Type 0 where
  pub none_before : (c : ℕ) → was_opened c (chronicle g J) ≡ false → answered_on c (acts g J) ≡ []
  pub is_front : (c : ℕ) → was_opened c (chronicle g J) ≡ true
      → (rest : List (List ℕ)) × (own_greeting ∷ answers_due g c (chronicle g J) ≡ answered_on c (acts g J) ++ rest)
  pub is_all : (c : ℕ) → is_live c (chronicle g J) ≡ true
      → answered_on c (acts g J) ≡ own_greeting ∷ answers_due g c (chronicle g J)
