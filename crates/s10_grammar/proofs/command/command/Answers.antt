use Rattle.s10_grammar.specs.Grammar.{grammar}
use Rattle.s10_grammar.proofs.command.command.Goals as goal

pub returns : goal.returns
unfolding grammar
returns c =
    c.with_subcommand.ensures _ _
    (c.with_subcommand-command-17.ensures _ _
    (c.with_subcommand-command-16.ensures _ _
    (c.with_subcommand-command-15.ensures _ _
    (c.with_subcommand-command-14.ensures _ _
    (c.with_subcommand-command-13.ensures _ _
    (c.with_subcommand-command-12.ensures _ _
    (c.with_subcommand-command-11.ensures _ _
    (c.with_subcommand-command-10.ensures _ _
    (c.with_subcommand-command-9.ensures _ _
    (c.with_subcommand-command-8.ensures _ _
    (c.with_subcommand-command-7.ensures _ _
    (c.with_subcommand-command-6.ensures _ _
    (c.with_subcommand-command-5.ensures _ _
    (c.with_subcommand-command-4.ensures _ _
    (c.with_subcommand-command-3.ensures _ _
    (c.with_subcommand-command-2.ensures _ _
    (c.with_subcommand-command.ensures _ _
    c.program.ensures
    c.check_command.ensures)
    c.make_command.ensures)
    c.show_command.ensures)
    c.replay_command.ensures)
    c.create_command.ensures)
    c.serve_command.ensures)
    c.grant_command.ensures)
    c.draw_command.ensures)
    c.void_command.ensures)
    c.query_command.ensures)
    c.withdraw_command.ensures)
    c.notes_command.ensures)
    c.again_command.ensures)
    c.report_command.ensures)
    c.info_command.ensures)
    c.audit_command.ensures)
    c.copy_command.ensures)
    c.loop_command.ensures
