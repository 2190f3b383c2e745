-- By what the name stands for.
use Rattle.spl_names.proofs.WideLedLemmas.{led_simulates}
use Rattle.spl_names.proofs.WideNameLemmas.{wide_case, name_simulates}
use Rattle.spl_names.proofs.laws.wide_names_simulate.Goals as goal

pub returns-clause-own : goal.returns-clause-own
returns-clause-own f c results z call d x at k need named enough =
    name_simulates c results z call d x at k need (wide_case z.setting x k (c.names x) (c.places x) named) enough

pub returns-clause-led : goal.returns-clause-led
returns-clause-led c = led_simulates
