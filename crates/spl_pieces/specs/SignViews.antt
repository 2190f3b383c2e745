-- What the tokens of the source stand for in the cutting of texts.
use Rattle.spl_tree.specs.declared.tokens.What.{What}
use Rattle.spl_tree.specs.declared.tokens.What.TheVariants as w
use Rattle.spl_cuts.specs.Signs as sg

-- what stands at a token
abbrev pub sign_of : What → sg.Sign
sign_of (w.Word name) = sg.Sign.word name.text.items
sign_of (w.Number n) = sg.Sign.number n
sign_of (w.Wide n) = sg.Sign.wide n
sign_of (w.Text chars) = sg.Sign.chars chars.bytes.items
sign_of (w.Mark m) = sg.Sign.mark m
sign_of w.End = sg.Sign.stop
