use Rattle.serde_json.specs.View.{view}
use Rattle.api_print.specs.Parts.{part_json}
use Rattle.api_print.proofs.AllPlain.{part_plain, read_from, text_from}
use Rattle.api_print.proofs.printing.print_part.Goals as goal

pub returns-in_ok-to_vec-in-Some-clause-text : goal.returns-in_ok-to_vec-in-Some-clause-text
returns-in_ok-to_vec-in-Some-clause-text c =
    text_from (view c.in-Some.value) (part_json c.args.part.now) c.in_ok-to_vec-in-Some.field-0.items (rw c.in-Some.is at c.in_ok-value.ensures) (part_plain c.args.part.now) c.in_ok-to_vec-in-Some.ensures.text

pub returns-in_ok-to_vec-in-Some-clause-reads_back : goal.returns-in_ok-to_vec-in-Some-clause-reads_back
returns-in_ok-to_vec-in-Some-clause-reads_back c =
    read_from (view c.in-Some.value) (part_json c.args.part.now) c.in_ok-to_vec-in-Some.field-0.items (rw c.in-Some.is at c.in_ok-value.ensures) (part_plain c.args.part.now) c.in_ok-to_vec-in-Some.ensures.reads_back
