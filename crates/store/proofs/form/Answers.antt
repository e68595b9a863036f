use Rattle.store.proofs.SpaceLaws.{form-full, form-new, form-old}
use Rattle.store.proofs.form.Goals as goal

pub returns-in-Old : goal.returns-in-Old
returns-in-Old c =
    search form-old

pub returns-in-New : goal.returns-in-New
returns-in-New c =
    search form-new

pub returns-in-Full : goal.returns-in-Full
returns-in-Full c =
    search form-full
