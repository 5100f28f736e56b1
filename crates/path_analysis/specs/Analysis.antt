-- What is found of an expression: what it reads and demands, and where its result comes from.
use Rattle.std.specs.Prelude.{List, [], ◌++◌, refl}
use Rattle.std.specs.Coded.{Coded, coded_list, coded×, code_by}
use Rattle.access_tries.specs.Paths.{coded_path}
use Rattle.reads_spec.specs.Paths.{Step, AccessPath, Demand, Shape, no_shape, one_of, paths, extended}
use Rattle.reads_spec.specs.Reads.{with_step}
use Rattle.path_analysis.specs.ShapeCode.{coded_shape}

pub record Analysis : Type 0 where
  pub reads : List AccessPath
  pub demands : List Demand
  pub shape : Shape

abbrev pub coded_analysis : Coded Analysis
coded_analysis =
    code_by (List AccessPath × (List Demand × Shape))
    (coded× (coded_list coded_path) (coded× (coded_list (coded× coded_path coded_path)) coded_shape))
    (λ a. (a.reads, (a.demands, a.shape)))
    (λ t. record { reads = t.0; demands = t.1.0; shape = t.1.1 }) (λ _. refl)

-- where nothing is read: the result comes from there
abbrev pub from_shape : Shape → Analysis
from_shape a = record { reads = []; demands = []; shape = a }

-- the same reads and demands, for a result that comes from nothing
abbrev pub without_shape : Analysis → Analysis
without_shape a = record { reads = a.reads; demands = a.demands; shape = no_shape }

-- what both read and demand, for a result that comes from one of both
abbrev pub united : Analysis → Analysis → Analysis
united a b =
    record { reads = a.reads ++ b.reads; demands = a.demands ++ b.demands; shape = one_of a.shape b.shape }

-- one step on: the paths there are read
abbrev pub one_step_on : Analysis → Step → Analysis
one_step_on a n = record {
  reads = a.reads ++ with_step (paths (extended a.shape n));
  demands = a.demands;
  shape = extended a.shape n;
}
