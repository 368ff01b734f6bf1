-- What a call came to, from what its command came to.
use Rattle.std.proofs.Common.{◌≡◌, ℕ, Bool, true, false, true≢false, List, Option, Some, None, refl, sym, ap, ◌∙◌, subst, arith}
use Rattle.std.specs.Prelude.{◌≤◌, option_map, not, is_some, if◌then◌else◌}
use Rattle.zre_outside.specs.Causes.{Rose}
use Rattle.zre_commands.specs.declared.pump.status.Status.{Status}
use Rattle.zre_chat.specs.Chat.{IsChat}
use Rattle.zre_chat.specs.declared.chat.Chat.{Chat}
use Rattle.zre_app.specs.declared.command.Command.TheVariants as commands
use Rattle.zre_app.specs.declared.plain_words.Plain.{Plain}
use Rattle.zre_app.specs.ChatWords.{chat_of}
use Rattle.zre_app.specs.Does.{DidPlain, Did}
use Rattle.zre_chat.specs.Views.{Views, Handed, handed, seen_of}
use Rattle.zre_app.specs.PlainWords.{plain_of}
use Rattle.zre_app.specs.Usage.{UsageOutcome}
use Rattle.zre_app.specs.Words.{command_of, is_chat}

-- the command of words that are no chat's, and of those that are
plain_is : (words : List (List ℕ)) → is_chat words ≡ false → command_of words ≡ option_map commands.Plain (plain_of words)
plain_is words isnt = ap (λ (b : Bool). if b then option_map commands.Chat (chat_of words) else option_map commands.Plain (plain_of words)) isnt

pub chat_is : (words : List (List ℕ)) (c : Option Chat) → is_chat words ≡ true → c ≡ chat_of words → command_of words ≡ option_map commands.Chat c
chat_is words c is same = ap (λ (b : Bool). if b then option_map commands.Chat (chat_of words) else option_map commands.Plain (plain_of words)) is ∙ ap (λ x. option_map commands.Chat x) (sym same)

-- a command without a network
pub plain_did : {I W O R P : Type 0} (v : Views I W O R P) (words : List (List ℕ)) (limit : ℕ) (status : Status) (input input' : I) (world : W) (out out' : O) (rec : R) (spawner : P)
    → is_chat words ≡ false → DidPlain v.streams (plain_of words) limit status input input' out out'
    → Did v (command_of words) limit status (handed input world out rec spawner) (handed input' world out' rec spawner)
plain_did v words limit status input input' world out out' rec spawner isnt d =
    subst (λ c. Did v c limit status (handed input world out rec spawner) (handed input' world out' rec spawner)) (sym (plain_is words isnt)) (by (plain_of words) d)
  where
    by : (p : Option Plain) → DidPlain v.streams p limit status input input' out out'
        → Did v (option_map commands.Plain p) limit status (handed input world out rec spawner) (handed input' world out' rec spawner)
    by None d = record { does = d.does; reads = d.reads; writes = d.writes; unread = d.unread; unrecorded = λ _. refl; world = λ _. refl; spawner = λ _. refl }
    by (Some p) d = record { does = d.does; reads = d.reads; writes = d.writes; unread = d.unread; unrecorded = λ _. refl; world = λ _. refl; spawner = λ _. refl }

-- a chat's name, with other words
pub usage_did : {I W O R P : Type 0} (v : Views I W O R P) (words : List (List ℕ)) (limit : ℕ) (status : Status) (input : I) (world : W) (out out' : O) (rec : R) (spawner : P)
    → is_chat words ≡ true → None ≡ chat_of words
    → UsageOutcome status (v.streams.written out) (v.streams.written out') (Rose (v.streams.write_faults out) (v.streams.write_faults out'))
    → v.streams.write_faults out ≤ v.streams.write_faults out'
    → Did v (command_of words) limit status (handed input world out rec spawner) (handed input world out' rec spawner)
usage_did v words limit status input world out out' rec spawner is same usage later =
    subst (λ x. Did v x limit status (handed input world out rec spawner) (handed input world out' rec spawner)) (sym (chat_is words None is same)) (record {
      does = usage;
      reads = omega arith;
      writes = later;
      unread = λ _. refl;
      unrecorded = λ _. refl;
      world = λ _. refl;
      spawner = λ _. refl;
    })

-- a chat
pub chat_did : {I W O R P : Type 0} (v : Views I W O R P) (words : List (List ℕ)) (limit : ℕ) (status : Status) (h h' : Handed I W O R P) (c : Chat)
    → is_chat words ≡ true → Some c ≡ chat_of words → IsChat c.config c.start c.capture limit (seen_of v h) (seen_of v h') status
    → (c.capture ≡ None → h'.rec ≡ h.rec)
    → (v.streams.read_faults h.input ≤ v.streams.read_faults h'.input) × (v.streams.write_faults h.out ≤ v.streams.write_faults h'.out)
    → Did v (command_of words) limit status h h'
chat_did v words limit status h h' c is same chat unrecorded later =
    subst (λ x. Did v x limit status h h') (sym (chat_is words (Some c) is same)) (record {
      does = chat;
      reads = later.0;
      writes = later.1;
      unread = λ e. absurd (true≢false (sym e));
      unrecorded = λ e. unrecorded (none_named c.capture e);
      world = λ e. absurd (true≢false (sym e));
      spawner = λ e. absurd (true≢false (sym e));
    })
  where
    none_named : (name : Option (List ℕ)) → not (is_some name) ≡ true → name ≡ None
    none_named None e = refl
    none_named (Some file) e = absurd (true≢false (sym e))
