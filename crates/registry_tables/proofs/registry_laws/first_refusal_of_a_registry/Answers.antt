use Rattle.registry_tables.proofs.RegistryOrders.{registry_key_order, package_key_order}
use Rattle.registry_tables.proofs.registry_laws.first_refusal_of_a_registry.Goals as goal

pub returns : goal.returns
returns c = record { registry = registry_key_order; packages = package_key_order }
