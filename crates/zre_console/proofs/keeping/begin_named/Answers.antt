use Rattle.std.proofs.Common.{◌∙◌, ap, subst}
use Rattle.std.specs.Prelude.{is_ok}
use Rattle.std.specs.Io.KnownBytes.{Keeps, Appends}
use Rattle.zre_console.proofs.keeping.begin_named.Goals as goal

pub returns-clause-begins : goal.returns-clause-begins
returns-clause-begins g c = let r = g.R.Recorder in record {
  is_begun = c.in_ok-put.ensures.begun ∙ c.begin.ensures.begun ∙ ap is_ok c.in_ok-begin.was;
  is_kept = subst (λ k. Appends k (r.kept c.put.new.self) c.args.head.now) c.in_ok-begin.ensures.emptied c.in_ok-put.ensures.recorded;
  is_named = subst (λ k. Keeps k (r.named c.put.new.self)) c.in_ok-begin.ensures.name c.in_ok-put.ensures.name;
}
