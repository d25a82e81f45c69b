-- `frame_reader::fixed_size::fixed_size_of` meets its contract: each arm is the size of the fields of its command; those without a number are found alone. Assumes nothing.
use mathlib.Core.Path.{refl}
use native.Mathlib.Omega.{arith}
use Rattle.method.specs.Commands.{commands, known, fields_of}
use Rattle.frame_reader.specs.FixedSize.{none, flag, flags, number}
use Rattle.frame_reader.proofs.fixed_size.fixed_size_of.Goals as goal

pub returns-in-655391 : goal.returns-in-655391
unfolding commands known fields_of
returns-in-655391 c =
    rw c.in-655391.is (refl, omega arith, number 2 (number 4 (number 2 none)))

pub returns-in-3932170 : goal.returns-in-3932170
unfolding commands known fields_of
returns-in-3932170 c =
    rw c.in-3932170.is (refl, omega arith, number 4 (number 2 flag))

pub returns-in-3932240 : goal.returns-in-3932240
unfolding commands known fields_of
returns-in-3932240 c =
    rw c.in-3932240.is (refl, omega arith, number 8 flag)

pub returns-in-3932250 : goal.returns-in-3932250
unfolding commands known fields_of
returns-in-3932250 c =
    rw c.in-3932250.is (refl, omega arith, number 8 flag)

pub returns-in-3932280 : goal.returns-in-3932280
unfolding commands known fields_of
returns-in-3932280 c =
    rw c.in-3932280.is (refl, omega arith, number 8 flags)
