use Rattle.texts.proofs.PutLaws.{rows-there, form-there, counts-there, put-rows, put-form, put-counts, put-line}
use Rattle.texts.proofs.put_reply.Goals as goal

pub put_rows-requires : goal.put_rows-requires
put_rows-requires c =
    rows-there c.requires c.printed_by.ensures c.in-Rows.is

pub put_value-requires : goal.put_value-requires
put_value-requires c =
    form-there c.requires c.printed_by.ensures c.in-Form.is

pub put_counts-requires : goal.put_counts-requires
put_counts-requires c =
    counts-there c.requires c.printed_by.ensures c.in-Counts.is

pub returns-in-Rows : goal.returns-in-Rows
returns-in-Rows c =
    let h = put-rows c.requires c.printed_by.ensures c.in-Rows.is (c.put_rows.ensures.placed, c.put_rows.ensures.n_len_bound) in
    record { placed = h.0; work_len_bound = h.1 }

pub returns-in-Form : goal.returns-in-Form
returns-in-Form c =
    let h = put-form c.requires c.printed_by.ensures c.in-Form.is c.put_value.ensures in
    record { placed = h.0; work_len_bound = h.1 }

pub returns-in-Counts : goal.returns-in-Counts
returns-in-Counts c =
    let h = put-counts c.requires c.printed_by.ensures c.in-Counts.is (c.put_counts.ensures.placed, c.put_counts.ensures.n_len_bound) in
    record { placed = h.0; work_len_bound = h.1 }

pub returns-in-Line : goal.returns-in-Line
returns-in-Line c =
    let h = put-line c.requires c.printed_by.ensures c.in-Line.is (c.put_answer.ensures.placed, c.put_answer.ensures.answer_len_bound) in
    record { placed = h.0; work_len_bound = h.1 }
