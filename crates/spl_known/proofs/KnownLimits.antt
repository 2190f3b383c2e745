-- Units that pass a limit, computed.
use Rattle.std.proofs.Common.{refl}
use Rattle.spl_known.specs.LimitRuns as known
use Rattle.spl_known.specs.LimitRuns.{LimitIsSo, AllLimitsSo, AllCountsSo, AllReachSo}
use Rattle.spl_known.proofs.Computing.{all}

greatest_data : LimitIsSo known.greatest_data
unfolding all
greatest_data = refl

data_too_large : LimitIsSo known.data_too_large
unfolding all
data_too_large = refl

local_data_too_large : LimitIsSo known.local_data_too_large
unfolding all
local_data_too_large = refl

pub all_limit : AllLimitsSo known.limit_runs
all_limit = (greatest_data, (data_too_large, (local_data_too_large, tt)))

pub all_count : AllCountsSo known.count_runs
all_count = (refl, (refl, (refl, (refl, (refl, (refl, (refl, (refl, tt))))))))

pub all_reach : AllReachSo known.reach_runs
all_reach = (refl, (refl, (refl, (refl, (refl, (refl, (refl, (refl, tt))))))))
