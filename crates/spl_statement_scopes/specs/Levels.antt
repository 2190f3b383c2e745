-- The first level of a body's statements, which has the results too, of the names that stand for what gives them.
use Rattle.std.specs.Prelude.{None, option_map}
use Rattle.spl_sorts.specs.spl_meaning.Names.{or_else, nothing_declared}
use Rattle.spl_module_code.specs.spl_scopes.Scopes.{Results}
use Rattle.spl_module_code.specs.Bodies.{seen_results}
use Rattle.spl_body_scopes.specs.Levels.{Spots, Level, through}

-- places, and behind them those of results
abbrev pub behind : Spots → Results → Spots
behind places results x = or_else (places x) (option_map (λ r. r.1) (results x))

-- no name, and no place
abbrev pub no_names : Level
no_names = record { names = nothing_declared; places = λ x. None }

-- the first of three levels, and behind its places those of results whose names still stand for what gives them, through all three
abbrev pub with_results : Level → Level → Level → Results → Level
with_results inner own outer results = record {
  names = inner.names;
  places = behind inner.places (seen_results (through inner.names own.names outer.names) results);
}
