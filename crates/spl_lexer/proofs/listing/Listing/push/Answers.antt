-- A token more, with the number of its segment.
use Rattle.std.proofs.Common.{◌≡◌, ◌++◌, ◌∷◌, [], map, ap, ◌∙◌, List}
use Rattle.spl_tree.specs.declared.tokens.Token.{Token}
use Rattle.spl_cuts.specs.Signs.{Found}
use Rattle.spl_pieces.specs.SignViews.{sign_of}
use Rattle.spl_lexer.specs.TokenViews.{found_of, IsNumbered}
use Rattle.spl_lexer.proofs.SegmentLemmas.{pushed}
use Rattle.spl_lexer.proofs.listing.Listing.push.Goals as goal

-- the token behind the others is numbered, and seen with the name of its segment
after_push : (c : goal.After-unwrap) → IsNumbered c.push.new.self.items c.number.new.self
    × (map (found_of c.number.new.self) c.push.new.self.items
    ≡ map (found_of c.self.inside.segments) c.self.inside.tokens.items
    ++ record { what = sign_of c.args.what; at = c.args.at; segment = c.args.segment.now.text.items } ∷ [])
after_push c =
    let t : Token = record { what = c.args.what; at = c.args.at; segment = c.in_ok-number.number } in
    let items : c.push.new.self.items ≡ c.self.inside.tokens.items ++ t ∷ [] =
    (rw c.unwrap.ensures at c.push.ensures.items)
    ∙ ap (λ (ts : List Token). ts ++ t ∷ []) c.in_ok-reserve.ensures.items in
    let number = c.in_ok-number.ensures in
    pushed c.self.inside.segments c.number.new.self c.args.segment.now.text.items c.self.inside.tokens.items
    c.push.new.self.items t c.self.invariant items number.names number.number number.within

pub invariant_of-self-2 : goal.invariant_of-self-2
invariant_of-self-2 c = (after_push c).0

pub returns : goal.returns
returns c =
    let last : Found = record { what = sign_of c.args.what; at = c.args.at; segment = c.args.segment.now.text.items } in
    (after_push c).1 ∙ ap (λ (fs : List Found). fs ++ last ∷ []) c.self.view_is
