-- The answer to a request, of what loading for it came to.
use Rattle.std.specs.Prelude.{List, Result, Ok, Err}
use Rattle.entity_store.specs.declared.request.Request.{Request}
use Rattle.entity_store.specs.Store.{Store}
use Rattle.policy_set.specs.Data.{PolicyData}
use Rattle.policy_set.specs.Response.{response}
use Rattle.entity_loading.specs.declared.error.EntitySliceError.{EntitySliceError}
use Rattle.entity_manifest.specs.declared.answer.BatchAnswer.{BatchAnswer}
use Rattle.entity_manifest.specs.declared.answer.BatchAnswer.TheVariants.{Loading, Decided}

-- the response on what is loaded, or why it is not
abbrev pub answer_of : List PolicyData → Request → Result Store EntitySliceError → BatchAnswer
answer_of ps q (Ok s) = Decided (response ps q s)
answer_of ps q (Err e) = Loading e
