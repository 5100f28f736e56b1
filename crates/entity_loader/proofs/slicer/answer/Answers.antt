use Rattle.std.proofs.Common.{sym}
use Rattle.entity_loader.specs.Asked.{asked}
use Rattle.entity_loader.proofs.slicer.answer.Goals as goal

pub returns-in_ok-cut_along-in-Some : goal.returns-in_ok-cut_along-in-Some
returns-in_ok-cut_along-in-Some c = record {
  stored = c.in-Some.entity.now;
  at = sym c.in-Some.ensures;
  keep = asked c.args.request.now.access_trie;
  is = c.in_ok-cut_along-in-Some.ensures;
  chains = λ d h. h;
  tags = λ d h. h;
  exactly = λ _. c.in_ok-cut_along-in-Some.ensures;
}
