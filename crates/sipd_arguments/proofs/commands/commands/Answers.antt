use Rattle.sipd_arguments.specs.CommandLine.{check_command, replay_command, compact_command, serve_command, decide_command, matrix_command, report_command}
use Rattle.sipd_arguments.specs.CommandLine.{user_command, calls_command, phones_command, now_command, trace_command, ladder_command, sources_command, page_command}
use Rattle.sipd_arguments.proofs.commands.commands.Goals as goal

pub returns : goal.returns
returns c =
    c.and_command.ensures _ page_command
    (c.and_command-known-14.ensures _ sources_command
    (c.and_command-known-13.ensures _ ladder_command
    (c.and_command-known-12.ensures _ trace_command
    (c.and_command-known-11.ensures _ now_command
    (c.and_command-known-10.ensures _ phones_command
    (c.and_command-known-9.ensures _ calls_command
    (c.and_command-known-8.ensures _ user_command
    (c.and_command-known-7.ensures _ report_command
    (c.and_command-known-6.ensures _ matrix_command
    (c.and_command-known-5.ensures _ decide_command
    (c.and_command-known-4.ensures _ serve_command
    (c.and_command-known-3.ensures _ compact_command
    (c.and_command-known-2.ensures _ replay_command
    (c.and_command-known.ensures _ check_command c.program-known.ensures c.check_command.ensures)
    c.replay_command.ensures)
    c.compact_command.ensures)
    c.serve_command.ensures)
    c.decide_command.ensures)
    c.matrix_command.ensures)
    c.report_command.ensures)
    c.user_command.ensures)
    c.calls_command.ensures)
    c.phones_command.ensures)
    c.now_command.ensures)
    c.trace_command.ensures)
    c.ladder_command.ensures)
    c.sources_command.ensures)
    c.page_command.ensures
