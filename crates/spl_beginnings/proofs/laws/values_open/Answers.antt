-- Along the tree, with as a value or as a test what is wanted.
use Rattle.spl_statement_code.specs.spl_code.Code.{as_value, as_test}
use Rattle.spl_beginnings.proofs.ExpressionLaws.{opens_code, may_reference}
use Rattle.spl_beginnings.proofs.ValueLaws.{opens_value}
use Rattle.spl_beginnings.proofs.laws.values_open.Goals as goal

pub returns-clause-value : goal.returns-clause-value
returns-clause-value c s e k = opens_code s e as_value k

pub returns-clause-reference : goal.returns-clause-reference
returns-clause-reference c = may_reference

pub returns-clause-found : goal.returns-clause-found
returns-clause-found c = opens_value

pub returns-clause-test : goal.returns-clause-test
returns-clause-test c s e fail k = opens_code s e (as_test fail) k
