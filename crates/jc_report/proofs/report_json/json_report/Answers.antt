use Rattle.jc_report.proofs.Lives.{made_again}
use Rattle.jc_report.proofs.report_json.json_report.Goals as goal

pub push_lives-requires : goal.push_lives-requires
push_lives-requires c =
    rw (c.lives-lives.ensures, c.entries-entries.ensures)
    (made_again 0 c.args.run.now.transcript.now.lives c.args.run.now.transcript.now.entries c.requires.legal.ordered c.requires.legal.each c.requires.opens)
