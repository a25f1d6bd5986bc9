use Rattle.file_laws.proofs.Listings as listings
use Rattle.file_laws.proofs.all_names_are_listed.Goals as goal

pub returns : goal.returns
returns c = listings.all_names_are_listed
