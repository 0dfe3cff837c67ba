use Rattle.sheet_set.proofs.sheets.Sheets.commit.Goals as goal

pub make-requires : goal.make-requires
make-requires c = record {
  room = c.requires.room;
  places = c.requires.places;
  numbered = c.requires.numbered;
  few = c.requires.few;
  given = c.requires.given;
  layers = c.requires.layers;
}
