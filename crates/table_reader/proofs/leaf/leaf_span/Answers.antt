-- `table_reader::leaf::leaf_span` meets its contract. Assumes nothing.
use mathlib.Core.Path.{refl, sym, ap, ◌∙◌}
use Rattle.types.specs.Octets.{number_width}
use Rattle.tables.specs.Letters.{number, boolean, decimal}
use Rattle.table_reader.specs.Counting.{counting}
use Rattle.table_reader.proofs.CountingLaws.{leaf-fixed, leaf-long}
use Rattle.table_reader.proofs.leaf.leaf_span.Goals as goal

pub returns-in-Number : goal.returns-in-Number
returns-in-Number c =
    rw c.in-Number.is (ap (counting (λ _. 1)) c.span.ensures ∙ sym (leaf-fixed (number (number_width c.in-Number.width)) _ _ _ (sym c.octets.ensures)))

pub returns-in-Void : goal.returns-in-Void
returns-in-Void c =
    rw c.in-Void.is (ap (counting (λ _. 1)) c.span-in-Void.ensures ∙ sym (leaf-fixed (number 0) _ _ _ refl))

pub returns-in-Boolean : goal.returns-in-Boolean
returns-in-Boolean c =
    rw c.in-Boolean.is (ap (counting (λ _. 1)) c.span-in-Boolean.ensures ∙ sym (leaf-fixed boolean _ _ _ refl))

pub returns-in-Decimal : goal.returns-in-Decimal
returns-in-Decimal c =
    rw c.in-Decimal.is (ap (counting (λ _. 1)) c.span-in-Decimal.ensures ∙ sym (leaf-fixed decimal _ _ _ refl))

pub returns-in-LongStr : goal.returns-in-LongStr
returns-in-LongStr c =
    rw c.in-LongStr.is (ap (counting (λ _. 1)) c.long_str.ensures ∙ sym (leaf-long _ _))

pub returns-in-Container : goal.returns-in-Container
unfolding counting
returns-in-Container c =
    rw c.in-Container.is
