-- Frames of a table, one after the other.
use Rattle.std.proofs.Common.{◌≡◌, ℕ, List, [], ◌∷◌, ◌++◌, map, filter_map, All, sym, ap, ◌∙◌, append_assoc, subst}
use Rattle.std.specs.List.{AllByRecursion}
use Rattle.std.proofs.lemmas.List.{append-nil}
use Rattle.zre_values.specs.declared.peer_id.PeerId.{PeerId}
use Rattle.zre_outside.specs.declared.entry.Command.{Command}
use Rattle.zre_shared.specs.declared.gathered.GatheredWhispers.{GatheredWhispers}
use Rattle.zre_shared.specs.declared.write.Write.{Write}
use Rattle.zre_shared.specs.Gathering.{frames_of, IsGathered, IsPushed, AreAll}
use Rattle.zre_shared.specs.Welcome.{IsWhisper, IsWelcome}
use Rattle.zre_shared.specs.Writes.{IsWrite, write_of, write_text}
use Rattle.zre_shared.proofs.FramesOneByOne.{again}

-- the frames of the writes before those that are left are gathered
pub record Welcoming (peer : PeerId) (all left : List Write) (g : GatheredWhispers) : Type 0 where
  pub gathered : IsGathered g
  pub peer_is : g.peer ≡ peer
  pub frames : frames_of g ++ map write_text left ≡ map write_text all
  pub fits : AllByRecursion IsWrite left

pub started : (peer : PeerId) (all left : List Write) (g : GatheredWhispers) → IsGathered g → g.peer ≡ peer → frames_of g ≡ [] → left ≡ all → AllByRecursion IsWrite all → Welcoming peer all left g
started peer all left g is same none whole fits = record {
  gathered = is;
  peer_is = same;
  frames = ap (λ (f : List (List ℕ)). f ++ map write_text left) none ∙ ap (map write_text) whole;
  fits = subst (AllByRecursion IsWrite) (sym whole) fits;
}

-- one more
pub stepped : (peer : PeerId) (all left rest : List Write) (w : Write) (g h : GatheredWhispers) (frame : List ℕ) → Welcoming peer all left g → left ≡ w ∷ rest → frame ≡ write_text w → IsPushed g h frame → Welcoming peer all rest h
stepped peer all left rest w g h frame was e f p =
    let fits : AllByRecursion IsWrite (w ∷ rest) = subst (AllByRecursion IsWrite) e was.fits in
    record {
      gathered = p.gathered;
      peer_is = p.peer ∙ was.peer_is;
      frames = ap (λ (fs : List (List ℕ)). fs ++ map write_text rest) (p.frames ∙ ap (λ (x : List ℕ). frames_of g ++ x ∷ []) f)
          ∙ append_assoc (frames_of g) (write_text w ∷ []) (map write_text rest)
          ∙ ap (λ (ws : List Write). frames_of g ++ map write_text ws) (sym e)
          ∙ was.frames;
      fits = fits.1;
    }

pub fits-next : (peer : PeerId) (all left rest : List Write) (w : Write) (g : GatheredWhispers) → Welcoming peer all left g → left ≡ w ∷ rest → IsWrite w
fits-next peer all left rest w g was e = (let fits : AllByRecursion IsWrite (w ∷ rest) = subst (AllByRecursion IsWrite) e was.fits in fits.0)

-- all of them
pub welcomed : (peer : PeerId) (all left : List Write) (g : GatheredWhispers) (commands : List Command) → Welcoming peer all left g → left ≡ [] → AllByRecursion IsWrite all → AreAll g commands → IsWelcome peer all commands
welcomed peer all left g commands was none fits are =
    let whole : frames_of g ≡ map write_text all =
    sym (append-nil (frames_of g)) ∙ ap (λ (ws : List Write). frames_of g ++ map write_text ws) (sym none) ∙ was.frames in
    record {
      whispers = subst (λ (p : PeerId). All (IsWhisper p) commands) was.peer_is are.whispers;
      frames = are.frames ∙ whole;
      again = ap (filter_map write_of) (are.frames ∙ whole) ∙ again all fits;
    }
