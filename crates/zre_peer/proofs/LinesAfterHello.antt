-- A message after HELLO, told by its lines.
use Rattle.std.proofs.Common.{◌≡◌, true, false, Result, Ok, Err, Option, Some, None, List, ℕ, refl, sym, ap, subst, ◌∙◌}
use Rattle.std.specs.Prelude.{OnOk, OnErr, IfErr, is_some}
use Rattle.std.specs.Option.{ForSome}
use Rattle.std.specs.Result.{IsErrAnd}
use Rattle.zre_values.specs.declared.peer_id.PeerId.{PeerId}
use Rattle.zre_msg.specs.declared.message.Body.{Body}
use Rattle.zre_msg.specs.declared.message.Body.TheVariants.{Hello, Whisper, Shout, Join, Leave, Ping, PingOk, Other}
use Rattle.zre_msg.specs.Commands.{body_of}
use Rattle.zre_msg.specs.Content.{content_of}
use Rattle.zre_msg.specs.Lent.{message_of}
use Rattle.zre_msg.specs.declared.commands.LentBody.{LentBody}
use Rattle.zre_msg.specs.declared.commands.LentBody.TheVariants as lent
use Rattle.zre_msg.specs.declared.lent.LentMessage.{LentMessage}
use Rattle.zre_peer.specs.Runs.{is_hello}
use Rattle.zre_peer.specs.Heads.{heads_of}
use Rattle.zre_peer.specs.declared.heads.Heads.{Heads}
use Rattle.zre_peer.specs.Standing.{IsReady}
use Rattle.zre_peer.specs.Views.{after, blank, is_small}
use Rattle.zre_peer.specs.declared.peer_run.Run.{Run}
use Rattle.zre_peer.specs.declared.peer_run.RunFault.{RunFault}
use Rattle.zre_peer.specs.declared.view.View.{View}

-- only HELLO sets the name, the endpoint and the headers
pub later_keeps : (v : View) (b : Body) → is_hello b ≡ false → ((after v b).name ≡ v.name) × ((after v b).endpoint ≡ v.endpoint) × ((after v b).headers ≡ v.headers)
later_keeps v (Hello endpoint groups status name headers) e = absurd cc
later_keeps v (Whisper content) e = (refl, refl, refl)
later_keeps v (Shout group content) e = (refl, refl, refl)
later_keeps v (Join group status) e = (refl, refl, refl)
later_keeps v (Leave group status) e = (refl, refl, refl)
later_keeps v Ping e = (refl, refl, refl)
later_keeps v PingOk e = (refl, refl, refl)
later_keeps v (Other number rest more) e = (refl, refl, refl)

-- whether it is taken or not
pub same_name : {X E : Type 0} (result : Result X E) (v w : View) (b : Body) → is_hello b ≡ false → OnOk result ((is_small (after v b) ≡ true) × (w ≡ after v b)) → OnErr result (w ≡ v) → w.name ≡ v.name
same_name (Ok x) v w b e ok err = ap (λ (u : View). u.name) ok.1 ∙ (later_keeps v b e).0
same_name (Err x) v w b e ok err = ap (λ (u : View). u.name) err

pub still_small : {X E : Type 0} (result : Result X E) (v w : View) (b : Body) → is_small v ≡ true → OnOk result ((is_small (after v b) ≡ true) × (w ≡ after v b)) → OnErr result (w ≡ v) → is_small w ≡ true
still_small (Ok x) v w b small ok err = ap is_small ok.1 ∙ ok.0
still_small (Err e) v w b small ok err = ap is_small err ∙ small

some_is : (v w : View) → Some v ≡ Some w → v ≡ w
some_is v w e = cc

pub none_is : (o : Option View) → is_some o ≡ false → o ≡ None
none_is None e = refl
none_is (Some v) e = absurd cc

-- the beginnings of lines, made from HELLO
pub ready_first : (id same : PeerId) (o : Option View) (v : View) (heads : Heads) → o ≡ Some v → same ≡ id → heads ≡ heads_of id v.name → ForSome o (λ w. heads ≡ heads_of same w.name)
ready_first id same o v heads e f is = λ w here. is ∙ ap (λ (n : List ℕ). heads_of id n) (ap (λ (u : View). u.name) (some_is v w (sym e ∙ here))) ∙ ap (λ i. heads_of i w.name) (sym f)

-- a first message was taken or refused, where these beginnings were made from it
pub ready_after : (result : Result (Unit {0}) RunFault) (was now : Run) (body : Body) (id : PeerId) (heads place : Heads)
    → is_some was.view ≡ false → id ≡ was.id → place ≡ heads → (is_hello body ≡ true → heads ≡ heads_of id (after blank body).name)
    → (was.view ≡ None → OnOk result ((is_hello body ≡ true) × (now.view ≡ Some (after blank body)))) → OnErr result (now.view ≡ was.view) → now.id ≡ was.id
    → IsReady now place
ready_after (Ok x) was now body id heads place none own is made first kept same =
    let f = first (none_is was.view none) in
    ready_first id now.id now.view (after blank body) place f.1 (same ∙ sym own) (is ∙ made f.0)
ready_after (Err e) was now body id heads place none own is made first kept same =
    λ w here. absurd (let no : None ≡ Some w = sym (none_is was.view none) ∙ sym kept ∙ here in cc)

-- what is so of a fault, where it was passed on
pub passed_on : (P : RunFault → Type 0) (result : Result (Unit {0}) RunFault) (fault : RunFault) → IsErrAnd result (λ e. e ≡ fault) → P fault → IfErr result P
passed_on P (Ok x) fault is p = tt
passed_on P (Err e) fault is p = subst P (sym is) p

command_is_later : (c : LentBody) (more : List (List ℕ)) → is_hello (body_of c more) ≡ false
command_is_later lent.Whisper more = refl
command_is_later (lent.Shout group) more = refl
command_is_later (lent.Join group status) more = refl
command_is_later (lent.Leave group status) more = refl
command_is_later lent.Ping more = refl
command_is_later lent.PingOk more = refl
command_is_later (lent.Other number rest) more = refl

-- a message that lies in frames is no HELLO
pub lent_is_later : (l : LentMessage) → is_hello (message_of l).body ≡ false
lent_is_later l = command_is_later l.command (content_of l.content)
