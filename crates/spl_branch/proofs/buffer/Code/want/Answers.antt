-- A name's place among the names is its want's among the wants.
use Rattle.std.proofs.Common.{◌≡◌, ◌∙◌, ◌++◌, ◌∷◌, [], Some, None, length, is_some, unwrap_or, if◌then◌else◌, sym, ap, arith, rules}
use Rattle.std.specs.Prelude.{position}
use Rattle.spl_branch.specs.Codes.{same_want, want_place}
use Rattle.spl_branch.proofs.KeyLemmas.{found_key}
use Rattle.spl_branch.proofs.buffer.Code.want.Goals as goal

pub returns-in-Some-clause-index : goal.returns-in-Some-clause-index
returns-in-Some-clause-index c =
    let old = c.args.self.now in
    let place : position (same_want c.args.name.text.items c.args.gate) old.wants.items ≡ Some c.in-Some.index =
    sym (found_key old.names.keys old.wants.items c.key_of-key.result c.args.name.text.items c.args.gate old.keyed c.key_of-key.ensures) ∙ sym c.in-Some.ensures.index in
    sym (ap (λ o. unwrap_or o (length old.wants.items)) place)

pub returns-in-Some-clause-wants : goal.returns-in-Some-clause-wants
returns-in-Some-clause-wants c =
    let old = c.args.self.now in
    let place : position (same_want c.args.name.text.items c.args.gate) old.wants.items ≡ Some c.in-Some.index =
    sym (found_key old.names.keys old.wants.items c.key_of-key.result c.args.name.text.items c.args.gate old.keyed c.key_of-key.ensures) ∙ sym c.in-Some.ensures.index in
    sym (ap (λ o. if is_some o then old.wants.items else old.wants.items ++ record { name = c.args.name; gate = c.args.gate } ∷ []) place)

pub returns-clause-index : goal.returns-clause-index
returns-clause-index c =
    let old = c.args.self.now in
    let none : c.get_index_of.result ≡ None = search rules in
    let place : position (same_want c.args.name.text.items c.args.gate) old.wants.items ≡ None =
    sym (found_key old.names.keys old.wants.items c.key_of-key.result c.args.name.text.items c.args.gate old.keyed c.key_of-key.ensures) ∙ sym c.get_index_of.ensures.index ∙ none in
    let last : want_place c.args.name c.args.gate old.wants.items ≡ length old.wants.items = ap (λ o. unwrap_or o (length old.wants.items)) place in
    omega (arith, c.len-index.ensures, old.wants.ok, last)

pub returns-clause-wants : goal.returns-clause-wants
returns-clause-wants c =
    let old = c.args.self.now in
    let none : c.get_index_of.result ≡ None = search rules in
    let place : position (same_want c.args.name.text.items c.args.gate) old.wants.items ≡ None =
    sym (found_key old.names.keys old.wants.items c.key_of-key.result c.args.name.text.items c.args.gate old.keyed c.key_of-key.ensures) ∙ sym c.get_index_of.ensures.index ∙ none in
    c.in_ok-push.ensures.items ∙ ap (λ ws. ws ++ record { name = c.args.name; gate = c.args.gate } ∷ []) c.reserve.ensures.items
    ∙ sym (ap (λ o. if is_some o then old.wants.items else old.wants.items ++ record { name = c.args.name; gate = c.args.gate } ∷ []) place)
