use Rattle.kernel_dump.proofs.ConsoleLines.{console_lines-first, console_lines-only}
use Rattle.kernel_dump.proofs.console.split_line.Goals as goal

pub returns-then-len-console-clause-lines : goal.returns-then-len-console-clause-lines
returns-then-len-console-clause-lines c =
    let within = c.if-len-console.true in
    console_lines-first c.args.console.now c.line_len-len.result within c.line_len-len.ensures.one_line (c.line_len-len.ensures.newline within)

pub returns-else-len-console-clause-lines : goal.returns-else-len-console-clause-lines
returns-else-len-console-clause-lines c =
    console_lines-only c.args.console.now c.line_len-len.result c.requires.some c.if-len-console.false c.line_len-len.ensures.one_line
