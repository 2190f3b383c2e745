use Rattle.spl_reading.specs.ReadDeclarations.{more_specs}
use Rattle.spl_tokens.proofs.Steps.{by_peek}
use Rattle.spl_listed.specs.Lists as lists
use Rattle.spl_headings.proofs.SpecLemmas.{untyped}
use Rattle.spl_headings.proofs.headings.further_spec.Goals as goal

-- the next token is no kind's word
pub returns-in_default : goal.returns-in_default
unfolding more_specs
returns-in_default c = rw (
  by_peek _ _ _ _ c.in_ok-kind.ensures,
  untyped
      (lists.specs c.args.read) c.in_ok-kind.field-0 c.args.tokens.now c.in_default.not-Type,
) c.untyped_spec.ensures
