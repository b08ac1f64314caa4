use Rattle.rowan_edit_laws.proofs.SiteLaw.{by-sites}
use Rattle.rowan_edit_laws.proofs.laws.sites_say_where_elements_go.Goals as goal

pub returns : goal.returns
returns c = by-sites
