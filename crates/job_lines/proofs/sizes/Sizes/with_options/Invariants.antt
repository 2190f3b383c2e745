use Rattle.std.proofs.Common.{◌≡◌, map, drop}
use Rattle.job_lines.specs.Sizes.{options}
use Rattle.job_lines.proofs.sizes.Sizes.with_options.Given as goal

-- the options that are left give of the sizes so far what all give
abbrev pub invariant-loop-word : goal.invariant-loop-word
invariant-loop-word l = options l.sizes (map (λ w. w.now) (drop l.word-index l.words)) ≡ options l.fn.self (map (λ w. w.now) l.words)
