-- What a part of a body may use, as the rules of sources have it.
use Rattle.std.specs.Prelude.{ℕ, Bool, true, if◌then◌else◌, List, [], ◌∷◌, Option, Some, None, is_some}
use Rattle.std.specs.Borrow.{Bor}
use Rattle.spl_tree.specs.declared.names_and_places.Name.{Name}
use Rattle.spl_tree.specs.Views.{letters}
use Rattle.spl_sorts.specs.spl_meaning.Names as n
use Rattle.spl_sorts.specs.spl_meaning.ExpressionRules as rules
use Rattle.spl_sorts.specs.Tables.{table_of, names_of}
use Rattle.spl_uses.specs.declared.scopes.Scope.{Scope}

-- a body's name before others, where it has a result
abbrev pub with_result : Option (Bor Name) → List (List ℕ) → List (List ℕ)
with_result None xs = xs
with_result (Some x) xs = letters x.now ∷ xs

-- a name that is declared in the procedure around
abbrev pub is_local_in : Scope → List ℕ → Bool
is_local_in s x =
    if is_some (n.find (table_of s.names.inner.now) x) then true else if s.all_local then true else is_some (n.find (table_of s.names.own.now) x)

-- names, results and flags
abbrev pub scope_of : Scope → rules.Scope
scope_of s = record {
  names = names_of s.names;
  is_local = is_local_in s;
  results = with_result s.subroutine (with_result s.procedure []);
  split = s.split;
  is_main = s.is_main;
}
