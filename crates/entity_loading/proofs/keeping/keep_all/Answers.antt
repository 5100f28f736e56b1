use Rattle.std.proofs.lemmas.Bool.{false≢true}
use Rattle.std.proofs.lemmas.Result.{err_from_is_err_and}
use Rattle.entity_loading.proofs.KeepSteps.{keeping_start, keeping_more, keeping_done, not_kept, none_found}
use Rattle.entity_loading.proofs.keeping.keep_all.Goals as goal

pub loop-uid-init : goal.loop-uid-init
loop-uid-init c = keeping_start c.args.kept.now c.args.found c.requires.found_ids c.requires.kept_ids

pub loop-uid-preserved : goal.loop-uid-preserved
loop-uid-preserved c =
    keeping_more c.args.kept.now c.args.found c.loop-uid.kept c.loop-uid.found c.pop_first.new.self c.loop-uid.invariant c.in-Some.uid c.in-Some.entity
    c.in-Some.ensures.value c.in-Some.ensures.updates.0 c.keep_one.new.kept c.in_ok-keep_one.ensures.kept

pub returns-in_err-keep_one-clause-why : goal.returns-in_err-keep_one-clause-why
returns-in_err-keep_one-clause-why c =
    let exit = err_from_is_err_and c.from_residual.result c.from_residual.ensures.1 in
    rw (exit.1, exit.2)
    (not_kept c.args.kept.now c.args.found c.loop-uid.kept c.loop-uid.found c.pop_first.new.self c.loop-uid.invariant c.in-Some.uid c.in-Some.entity
    c.in-Some.ensures.value c.in-Some.ensures.updates.0 c.in_err-keep_one.field-0.0 c.in_err-keep_one.ensures.why)

pub returns : goal.returns
returns c = record {
  ids = c.loop-uid.invariant.kept_ids;
  kept = keeping_done c.args.kept.now c.args.found c.loop-uid.kept c.loop-uid.found c.loop-uid.invariant (none_found c.loop-uid.found (λ h. false≢true (c.in_default.ensures.variant.1 h)));
  why = tt;
}
