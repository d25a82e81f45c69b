-- `utf8::lead_of` meets its contract. Assumes nothing.
use native.Mathlib.Omega.{arith}
use Rattle.utf8.specs.Utf8.{followers}
use Rattle.utf8.proofs.LeadLaws.{spanned}
use Rattle.utf8.proofs.lead_of.Goals as goal

pub returns-in-224 : goal.returns-in-224
unfolding followers
returns-in-224 c = spanned 0xe0 1 _ tt c.args.b (omega arith) (omega arith)

pub returns-in-237 : goal.returns-in-237
unfolding followers
returns-in-237 c = spanned 0xed 1 _ tt c.args.b (omega arith) (omega arith)

pub returns-in-240 : goal.returns-in-240
unfolding followers
returns-in-240 c = spanned 0xf0 1 _ tt c.args.b (omega arith) (omega arith)

pub returns-in-244 : goal.returns-in-244
unfolding followers
returns-in-244 c = spanned 0xf4 1 _ tt c.args.b (omega arith) (omega arith)

pub returns-in-0-to-127 : goal.returns-in-0-to-127
unfolding followers
returns-in-0-to-127 c = spanned 0x0 128 _ tt c.args.b (omega arith) (omega arith)

pub returns-in-194-to-223 : goal.returns-in-194-to-223
unfolding followers
returns-in-194-to-223 c = spanned 0xc2 30 _ tt c.args.b (omega arith) (omega arith)

pub returns-in-225-to-236 : goal.returns-in-225-to-236
unfolding followers
returns-in-225-to-236 c = spanned 0xe1 12 _ tt c.args.b (omega arith) (omega arith)

pub returns-in-238-to-239 : goal.returns-in-238-to-239
unfolding followers
returns-in-238-to-239 c = spanned 0xee 2 _ tt c.args.b (omega arith) (omega arith)

pub returns-in-241-to-243 : goal.returns-in-241-to-243
unfolding followers
returns-in-241-to-243 c = spanned 0xf1 3 _ tt c.args.b (omega arith) (omega arith)

pub returns-in_default : goal.returns-in_default
unfolding followers
returns-in_default c = spanned 0x80 66 _ tt c.args.b (omega arith) (omega arith)

pub returns-in_default-2 : goal.returns-in_default-2
unfolding followers
returns-in_default-2 c = spanned 0xf5 11 _ tt c.args.b (omega arith) (omega arith)
