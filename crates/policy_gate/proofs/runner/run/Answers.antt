use Rattle.policy_gate.proofs.Runs.{causes, complete_for, done_for, edit_for, exact_for, read_for, refused_for, sampled_for, too_long_for, too_long_reported, usage_for}
use Rattle.policy_gate.specs.Run.{Run, run_of}
use Rattle.policy_gate.specs.declared.command.Command.TheVariants.{Check, Level, Request, Manifest, Slice, Decide, Batch, Live, Review, List as Page}
use Rattle.policy_gate.proofs.runner.run.Given as given
use Rattle.policy_gate.proofs.runner.run.Goals as goal

-- the run
abbrev this : (g : given.Over) → goal.After-outcome g → Run
this g c = run_of g.S.Source.state g.K.Sink.state c.args.words.now c.args.source.now c.outcome.new.source c.args.sink.now c.outcome.new.sink c.outcome.result

pub returns-clause-cause : goal.returns-clause-cause
returns-clause-cause g c = causes _ _ _ _ _ _ c.outcome.ensures.runs

pub returns-clause-read : goal.returns-clause-read
returns-clause-read g c = read_for _ _ _ _ _ _ c.outcome.ensures.runs

pub returns-clause-usage : goal.returns-clause-usage
returns-clause-usage g c = usage_for _ _ _ _ _ _ c.outcome.ensures.runs

pub returns-clause-too_long : goal.returns-clause-too_long
returns-clause-too_long g c = too_long_for _ _ _ _ _ _ c.outcome.ensures.runs

pub returns-clause-too_long_reported : goal.returns-clause-too_long_reported
returns-clause-too_long_reported g c reads (bytes, reported, long, q) =
    too_long_reported bytes _ _ _ _ _ reported q _ c.outcome.ensures.runs reads long

pub returns-clause-exact : goal.returns-clause-exact
returns-clause-exact g c command bytes (is, work, q) =
    exact_for bytes _ _ _ _ _ _ command c.outcome.ensures.runs is work q

pub returns-clause-headline : goal.returns-clause-headline
returns-clause-headline g c = done_for c.laws.ensures (this g c) c.outcome.ensures.runs Slice

pub returns-clause-checked : goal.returns-clause-checked
returns-clause-checked g c = done_for c.laws.ensures (this g c) c.outcome.ensures.runs Check

pub returns-clause-levelled : goal.returns-clause-levelled
returns-clause-levelled g c level = done_for c.laws.ensures (this g c) c.outcome.ensures.runs (Level level)

pub returns-clause-conforming : goal.returns-clause-conforming
returns-clause-conforming g c = done_for c.laws.ensures (this g c) c.outcome.ensures.runs Request

pub returns-clause-manifested : goal.returns-clause-manifested
returns-clause-manifested g c = done_for c.laws.ensures (this g c) c.outcome.ensures.runs Manifest

pub returns-clause-decided : goal.returns-clause-decided
returns-clause-decided g c = done_for c.laws.ensures (this g c) c.outcome.ensures.runs Decide

pub returns-clause-sampled : goal.returns-clause-sampled
returns-clause-sampled g c seed size = sampled_for c.laws.ensures (this g c) c.outcome.ensures.runs seed size

pub returns-clause-batched : goal.returns-clause-batched
returns-clause-batched g c = done_for c.laws.ensures (this g c) c.outcome.ensures.runs Batch

pub returns-clause-reviewed : goal.returns-clause-reviewed
returns-clause-reviewed g c = done_for c.laws.ensures (this g c) c.outcome.ensures.runs Review

pub returns-clause-lived : goal.returns-clause-lived
returns-clause-lived g c = done_for c.laws.ensures (this g c) c.outcome.ensures.runs Live

pub returns-clause-listed : goal.returns-clause-listed
returns-clause-listed g c limit after = done_for c.laws.ensures (this g c) c.outcome.ensures.runs (Page limit after)

pub returns-clause-edit_refused : goal.returns-clause-edit_refused
returns-clause-edit_refused g c = edit_for c.laws.ensures (this g c) c.outcome.ensures.runs

pub returns-clause-refused : goal.returns-clause-refused
returns-clause-refused g c = refused_for c.laws.ensures (this g c) c.outcome.ensures.runs

pub returns-clause-complete : goal.returns-clause-complete
returns-clause-complete g c = complete_for c.laws.ensures (this g c) c.outcome.ensures.runs
