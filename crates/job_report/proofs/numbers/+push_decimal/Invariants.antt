use Rattle.job_report.proofs.numbers.+push_decimal.Given as goal

-- a tenth at each call
abbrev pub decreases-push_decimal : goal.decreases-push_decimal
decreases-push_decimal l = l.n
