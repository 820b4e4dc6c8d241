use Rattle.std.proofs.Common.{map, subst}
use Rattle.std.specs.Prelude.{string_bytes}
use Rattle.clap.specs.Words.{app_of, subcommand_rows_of}
use Rattle.sipd_arguments.specs.CommandLine.{misuse_of}
use Rattle.sipd_arguments.specs.Commands.{IsWhy}
use Rattle.sipd_arguments.proofs.Ending.{ends_call, ends_misused, ends_refused}
use Rattle.sipd_arguments.proofs.commands.parse.Goals as goal

pub returns-in-Ok-call_of : goal.returns-in-Ok-call_of
returns-in-Ok-call_of c =
    ends_call (app_of c.in_ok-commands.field-0) (map string_bytes c.args.words.now) c.in_ok-commands.ensures _ c.in-Ok-call_of.call
    c.in-Ok.ensures.kinds c.in-Ok.ensures.matches c.in-Ok-call_of.ensures.call

pub returns : goal.returns
returns c =
    let why = subst (IsWhy (misuse_of (subcommand_rows_of c.in-Ok.matches))) c.in-Err-Misused.field-0-is c.in-Err-Misused.ensures.refused in
    ends_misused (app_of c.in_ok-commands.field-0) (map string_bytes c.args.words.now) c.in_ok-commands.ensures c.in-Ok.matches c.in-Err-Misused.why
    c.in_ok-complaint_of-in-Err-Misused.field-0
    c.in-Ok.ensures.kinds c.in-Ok.ensures.matches why c.in_ok-complaint_of-in-Err-Misused.ensures

pub returns-in-Err : goal.returns-in-Err
returns-in-Err c =
    ends_refused (app_of c.in_ok-commands.field-0) (map string_bytes c.args.words.now) c.in_ok-commands.ensures c.in-Err.e c.answer_to.result
    c.in-Err.ensures.kinds c.answer_to.ensures
