-- Which crate it goes to, by its group.
use Rattle.std.proofs.Common.{sym, ◌∙◌, inl, inr}
use Rattle.hp_cpu.proofs.ActLemmas.{illegal_acts}
use Rattle.hp_cpu.proofs.words.whole_word.Goals as goal

pub returns-in-Field : goal.returns-in-Field
returns-in-Field g c = λ program here whole other. c.with_field.ensures program

pub returns-in-Stack : goal.returns-in-Stack
returns-in-Stack g c = λ program here whole other. illegal_acts program c.args.i _ _ (elim c.in-Stack.is [
  | inl e ↦ absurd (whole (sym c.group_of.ensures ∙ e))
  | inr rest ↦ elim rest [
    | inl e ↦ absurd (other (sym c.group_of.ensures ∙ e))
    | inr e ↦ sym c.group_of.ensures ∙ e
  ]
])
