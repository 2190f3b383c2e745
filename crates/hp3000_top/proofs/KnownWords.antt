-- What some words ask for, by hand.
use Rattle.std.proofs.Common.{◌≡◌, [], ◌∷◌, None, Some, refl}
use Rattle.std.specs.Prelude.{codes}
use Rattle.job_lines.specs.Numbers.{number_in}
use Rattle.hp3000_top.specs.declared.verbs.Verb.TheVariants as verb
use Rattle.hp3000_top.specs.Verbs.{job_number, asked}

run_asked : asked (codes "run" ∷ []) ≡ Some verb.Run
run_asked = refl

capitals_ask_nothing : asked (codes "RUN" ∷ []) ≡ None
capitals_ask_nothing = refl

number_asked : asked (codes "gen" ∷ codes "7" ∷ []) ≡ Some (verb.Gen 7)
unfolding job_number number_in
number_asked = refl

zeros_in_front_asked : asked (codes "gen" ∷ codes "00007" ∷ []) ≡ Some (verb.Gen 7)
unfolding job_number number_in
zeros_in_front_asked = refl

greatest_asked : asked (codes "gen" ∷ codes "65535" ∷ []) ≡ Some (verb.Gen 65535)
unfolding job_number number_in
greatest_asked = refl

one_more_asks_nothing : asked (codes "gen" ∷ codes "65536" ∷ []) ≡ None
unfolding job_number number_in
one_more_asks_nothing = refl

six_digits_ask_nothing : asked (codes "gen" ∷ codes "000007" ∷ []) ≡ None
unfolding job_number number_in
six_digits_ask_nothing = refl

no_digits_ask_nothing : asked (codes "gen" ∷ [] ∷ []) ≡ None
unfolding job_number number_in
no_digits_ask_nothing = refl

letters_ask_nothing : asked (codes "gen" ∷ codes "7A" ∷ []) ≡ None
unfolding job_number number_in
letters_ask_nothing = refl

no_number_asks_nothing : asked (codes "gen" ∷ []) ≡ None
no_number_asks_nothing = refl

number_behind_run_asks_nothing : asked (codes "run" ∷ codes "7" ∷ []) ≡ None
number_behind_run_asks_nothing = refl
