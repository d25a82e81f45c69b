-- `method_words::commands::known_command` meets its contract: each arm is the command of its pair. Assumes nothing.
use lib.ListN.{get_or}
use borrow.Author.Rules.{rules}
use Rattle.method.specs.Commands.{commands, known, fields_of}
use Rattle.method.specs.Words.{args_from}
use Rattle.method.specs.AnswerOf.{command_of}
use Rattle.method_words.specs.Words.{cut_args, command_with}
use Rattle.method_words.proofs.CommandLaws.{word_kept, in-arm}
use Rattle.method_words.proofs.commands.known_command.Goals as goal

pub returns-in-10-eq11 : goal.returns-in-10-eq11
unfolding commands known fields_of command_of args_from cut_args command_with
returns-in-10-eq11 c =
    in-arm 10 11 c.args.words (search rules) c.in-10-eq11.is-0 c.in-10-eq11.is-1 (cc)

pub returns-in-10-eq31 : goal.returns-in-10-eq31
unfolding commands known fields_of command_of args_from cut_args command_with
returns-in-10-eq31 c =
    in-arm 10 31 c.args.words (search rules) c.in-10-eq31.is-0 c.in-10-eq31.is-1 (cc)

pub returns-in-10-eq40 : goal.returns-in-10-eq40
unfolding commands known fields_of command_of args_from cut_args command_with
returns-in-10-eq40 c =
    in-arm 10 40 c.args.words (search rules) c.in-10-eq40.is-0 c.in-10-eq40.is-1 (cc)

pub returns-in-20-eq10 : goal.returns-in-20-eq10
unfolding commands known fields_of command_of args_from cut_args command_with
returns-in-20-eq10 c =
    in-arm 20 10 c.args.words (search rules) c.in-20-eq10.is-0 c.in-20-eq10.is-1 (cc)

pub returns-in-20-eq20 : goal.returns-in-20-eq20
unfolding commands known fields_of command_of args_from cut_args command_with
returns-in-20-eq20 c =
    in-arm 20 20 c.args.words (search rules) c.in-20-eq20.is-0 c.in-20-eq20.is-1 (cc)

pub returns-in-20-eq21 : goal.returns-in-20-eq21
unfolding commands known fields_of command_of args_from cut_args command_with
returns-in-20-eq21 c =
    in-arm 20 21 c.args.words (search rules) c.in-20-eq21.is-0 c.in-20-eq21.is-1 (cc)

pub returns-in-20-eq40 : goal.returns-in-20-eq40
unfolding commands known fields_of command_of args_from cut_args command_with
returns-in-20-eq40 c =
    in-arm 20 40 c.args.words (search rules) c.in-20-eq40.is-0 c.in-20-eq40.is-1 (cc)

pub returns-in-20-eq41 : goal.returns-in-20-eq41
unfolding commands known fields_of command_of args_from cut_args command_with
returns-in-20-eq41 c =
    in-arm 20 41 c.args.words (search rules) c.in-20-eq41.is-0 c.in-20-eq41.is-1 (cc)

pub returns-in-40-eq10 : goal.returns-in-40-eq10
unfolding commands known fields_of command_of args_from cut_args command_with
returns-in-40-eq10 c =
    in-arm 40 10 c.args.words (search rules) c.in-40-eq10.is-0 c.in-40-eq10.is-1 (cc)

pub returns-in-40-eq20 : goal.returns-in-40-eq20
unfolding commands known fields_of command_of args_from cut_args command_with
returns-in-40-eq20 c =
    in-arm 40 20 c.args.words (search rules) c.in-40-eq20.is-0 c.in-40-eq20.is-1 (cc)

pub returns-in-50-eq10 : goal.returns-in-50-eq10
unfolding commands known fields_of command_of args_from cut_args command_with
returns-in-50-eq10 c =
    in-arm 50 10 c.args.words (search rules) c.in-50-eq10.is-0 c.in-50-eq10.is-1 (cc)

pub returns-in-50-eq20 : goal.returns-in-50-eq20
unfolding commands known fields_of command_of args_from cut_args command_with
returns-in-50-eq20 c =
    in-arm 50 20 c.args.words (search rules) c.in-50-eq20.is-0 c.in-50-eq20.is-1 (cc)

pub returns-in-50-eq50 : goal.returns-in-50-eq50
unfolding commands known fields_of command_of args_from cut_args command_with
returns-in-50-eq50 c =
    in-arm 50 50 c.args.words (search rules) c.in-50-eq50.is-0 c.in-50-eq50.is-1 (cc)

pub returns-in-50-eq30 : goal.returns-in-50-eq30
unfolding commands known fields_of command_of args_from cut_args command_with
returns-in-50-eq30 c =
    in-arm 50 30 c.args.words (search rules) c.in-50-eq30.is-0 c.in-50-eq30.is-1 (cc)

pub returns-in-50-eq40 : goal.returns-in-50-eq40
unfolding commands known fields_of command_of args_from cut_args command_with
returns-in-50-eq40 c =
    in-arm 50 40 c.args.words (search rules) c.in-50-eq40.is-0 c.in-50-eq40.is-1 (cc)

pub returns-in-60-eq10 : goal.returns-in-60-eq10
unfolding commands known fields_of command_of args_from cut_args command_with
returns-in-60-eq10 c =
    in-arm 60 10 c.args.words (search rules) c.in-60-eq10.is-0 c.in-60-eq10.is-1 (cc)

pub returns-in-60-eq20 : goal.returns-in-60-eq20
unfolding commands known fields_of command_of args_from cut_args command_with
returns-in-60-eq20 c =
    in-arm 60 20 c.args.words (search rules) c.in-60-eq20.is-0 c.in-60-eq20.is-1 (cc)

pub returns-in-60-eq30 : goal.returns-in-60-eq30
unfolding commands known fields_of command_of args_from cut_args command_with
returns-in-60-eq30 c =
    in-arm 60 30 c.args.words (search rules) c.in-60-eq30.is-0 c.in-60-eq30.is-1 (cc)

pub returns-in-60-eq40 : goal.returns-in-60-eq40
unfolding commands known fields_of command_of args_from cut_args command_with
returns-in-60-eq40 c =
    in-arm 60 40 c.args.words (search rules) c.in-60-eq40.is-0 c.in-60-eq40.is-1 (cc)

pub returns-in-60-eq70 : goal.returns-in-60-eq70
unfolding commands known fields_of command_of args_from cut_args command_with
returns-in-60-eq70 c =
    in-arm 60 70 c.args.words (search rules) c.in-60-eq70.is-0 c.in-60-eq70.is-1 (cc)

pub returns-in-60-eq80 : goal.returns-in-60-eq80
unfolding commands known fields_of command_of args_from cut_args command_with
returns-in-60-eq80 c =
    in-arm 60 80 c.args.words (search rules) c.in-60-eq80.is-0 c.in-60-eq80.is-1 (rw (c.low_bit-in-60-eq80.ensures, ← (word_kept (get_or c.args.words 0 0) (search rules))))

pub returns-in-60-eq90 : goal.returns-in-60-eq90
unfolding commands known fields_of command_of args_from cut_args command_with
returns-in-60-eq90 c =
    in-arm 60 90 c.args.words (search rules) c.in-60-eq90.is-0 c.in-60-eq90.is-1 (rw (c.low_bit-in-60-eq90.ensures, ← (word_kept (get_or c.args.words 0 0) (search rules))))

pub returns-in-60-eq120 : goal.returns-in-60-eq120
unfolding commands known fields_of command_of args_from cut_args command_with
returns-in-60-eq120 c =
    in-arm 60 120 c.args.words (search rules) c.in-60-eq120.is-0 c.in-60-eq120.is-1 (rw (c.low_bit-in-60-eq120.ensures, c.low_bit-in-60-eq120-2.ensures, ← (word_kept (get_or c.args.words 0 0) (search rules))))

pub returns-in-85-eq10 : goal.returns-in-85-eq10
unfolding commands known fields_of command_of args_from cut_args command_with
returns-in-85-eq10 c =
    in-arm 85 10 c.args.words (search rules) c.in-85-eq10.is-0 c.in-85-eq10.is-1 (cc)

pub returns-in-90-eq10 : goal.returns-in-90-eq10
unfolding commands known fields_of command_of args_from cut_args command_with
returns-in-90-eq10 c =
    in-arm 90 10 c.args.words (search rules) c.in-90-eq10.is-0 c.in-90-eq10.is-1 (cc)
