-- A loop over parameters until their words pass a number.
use Rattle.std.proofs.Common.{◌≡◌, ◌<◌, ◌≤◌, ℕ, ◌+◌, Bool, true, false, List, [], ◌∷◌, map, drop, length, get_or, Option, Some, None, refl, ap, ◌∙◌}
use Rattle.std.specs.Prelude.{if◌then◌else◌, nat_lt}
use Rattle.spl_tree.specs.declared.expressions.Kind.{Kind}
use Rattle.spl_tree.specs.declared.expressions.Kind.TheVariants as kind
use Rattle.spl_sorts.specs.spl_meaning.Names as n
use Rattle.spl_sorts.specs.spl_meaning.Pending.{formal_words, by_value, value_words}
use Rattle.spl_sorts.specs.spl_meaning.Limits.{passing, parameter_sizes}
use Rattle.spl_sorts.specs.declared.profiles.Formal.{Formal}
use Rattle.spl_sorts.specs.Profiles.{formal_of}
use Rattle.spl_spots.proofs.ListWalks.{onward, onward_end}

-- a parameter has words
some_words : (f : n.Formal) → nat_lt 0 (formal_words f) ≡ true
some_words f = by (by_value f) f.kind
  where
    by : (v : Bool) (k : Option Kind) → nat_lt 0 (value_words v k) ≡ true
    by true (Some kind.Double) = refl
    by true (Some kind.Integer) = refl
    by true (Some kind.Logical) = refl
    by true (Some kind.Byte) = refl
    by true None = refl
    by false k = refl

-- a parameter more
pub counted : (limit most before : ℕ) (f : n.Formal) (fs : List n.Formal)
    → passing limit most before (parameter_sizes (f ∷ fs))
    ≡ (if nat_lt most (before + formal_words f) then record { limit = limit; at = f.at; count = before + formal_words f } ∷ []
    else passing limit most (before + formal_words f) (parameter_sizes fs))
counted limit most before f fs = ap (λ (b : Bool).
    if b
    then (if nat_lt most (before + formal_words f) then record { limit = limit; at = f.at; count = before + formal_words f } ∷ []
    else passing limit most (before + formal_words f) (parameter_sizes fs))
    else passing limit most before (parameter_sizes fs)) (some_words f)

pub parameter_step : (limit most before : ℕ) (list : List Formal) (i : ℕ) (f : Formal) → i < length list → f ≡ get_or list i f
    → passing limit most before (parameter_sizes (map formal_of (drop i list)))
    ≡ (if nat_lt most (before + formal_words (formal_of f)) then record { limit = limit; at = f.at; count = before + formal_words (formal_of f) } ∷ []
    else passing limit most (before + formal_words (formal_of f)) (parameter_sizes (map formal_of (drop (i + 1) list))))
parameter_step limit most before list i f lt is =
    onward formal_of (λ fs. passing limit most before (parameter_sizes fs)) list i f lt is
    ∙ counted limit most before (formal_of f) (map formal_of (drop (i + 1) list))

pub parameters_end : (limit most before : ℕ) (list : List Formal) (i : ℕ) → length list ≤ i
    → passing limit most before (parameter_sizes (map formal_of (drop i list))) ≡ []
parameters_end limit most before list i le = onward_end formal_of (λ fs. passing limit most before (parameter_sizes fs)) list i le

pub ruleset passings = (parameter_step, parameters_end)
