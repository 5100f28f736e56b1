use Rattle.std.proofs.Common.{sym, subst}
use Rattle.std.proofs.lemmas.Result.{IfOk-weaker}
use Rattle.policy_ext.specs.IpAddr.{IsRange}
use Rattle.policy_ext.proofs.RangeText.{range_written}
use Rattle.policy_ext.proofs.ip_addr.IpAddr.text.Goals as goal

pub returns-clause-is_read : goal.returns-clause-is_read
returns-clause-is_read c = IfOk-weaker c.written.result _ _ (λ s e. subst (λ text. IsRange text c.args.self.now) (sym e) (range_written c.args.self.now c.written.ensures.fits)) c.written.ensures.value
