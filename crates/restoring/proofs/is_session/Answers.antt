use Rattle.restoring.proofs.TestLaws.{session-small, rooms-given, session-model, session-state, session-rows, session-rest, head_passed, rows-passed}
use Rattle.std.proofs.lemmas.Bool.{not_from_false}
use Rattle.std.proofs.lemmas.Bool.{not_from_true}
use Rattle.restoring.proofs.is_session.Goals as goal

pub returns-then-not-rooms_fit : goal.returns-then-not-rooms_fit
returns-then-not-rooms_fit c =
    session-small _ _ _ _ _ _ _ c.rooms_fit.ensures (not_from_false _ c.if-not-rooms_fit.true)

pub returns-then-not-model_fits : goal.returns-then-not-model_fits
returns-then-not-model_fits c =
    session-model _ _ _ _ _ _ _ c.rooms_fit.ensures (not_from_true _ c.if-not-rooms_fit.false) c.model_fits.ensures (not_from_false _ c.if-not-model_fits.true)

pub state_fits-requires : goal.state_fits-requires
state_fits-requires c =
    (rooms-given c.args.n c.args.names.now c.args.arities.now c.args.listings.now c.args.table.now c.args.state.now c.args.value.now c.rooms_fit.ensures
    (not_from_true _ c.if-not-rooms_fit.false)).state

pub returns-then-not-state_fits : goal.returns-then-not-state_fits
returns-then-not-state_fits c =
    session-state _ _ _ _ _ _ _ c.rooms_fit.ensures (not_from_true _ c.if-not-rooms_fit.false)
    c.model_fits.ensures (not_from_true _ c.if-not-model_fits.false) c.state_fits.ensures (not_from_false _ c.if-not-state_fits.true)

pub returns-then-not-rows_fit : goal.returns-then-not-rows_fit
returns-then-not-rows_fit c =
    session-rows _ _ _ _ _ _ _ c.rooms_fit.ensures
    (not_from_true _ c.if-not-rooms_fit.false) c.model_fits.ensures
    (not_from_true _ c.if-not-model_fits.false) c.state_fits.ensures (not_from_true _ c.if-not-state_fits.false)
    c.rows_fit.ensures (not_from_false _ c.if-not-rows_fit.true)

pub returns : goal.returns
returns c =
    session-rest _ _ _ _ _ _ _ c.rooms_fit.ensures
    (not_from_true _ c.if-not-rooms_fit.false) c.model_fits.ensures
    (not_from_true _ c.if-not-model_fits.false) c.state_fits.ensures (not_from_true _ c.if-not-state_fits.false)
    c.rows_fit.ensures (not_from_true _ c.if-not-rows_fit.false) c.part_fits.ensures

pub model_fits-requires : goal.model_fits-requires
model_fits-requires c =
    let r = rooms-given c.args.n c.args.names.now c.args.arities.now c.args.listings.now c.args.table.now c.args.state.now c.args.value.now c.rooms_fit.ensures
    (not_from_true _ c.if-not-rooms_fit.false) in
    record { listing_words_in_bounds = r.listings; table_words_in_bounds = r.table }

pub part_fits-requires : goal.part_fits-requires
part_fits-requires c =
    record {
      head_value = head_passed _ _ _ _ c.model_fits.ensures (not_from_true _ c.if-not-model_fits.false);
      rows_in_bounds = rows-passed _ _ c.rows_fit.ensures (not_from_true _ c.if-not-rows_fit.false);
    }
