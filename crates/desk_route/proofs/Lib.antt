pub mod Laws
pub mod ContractLaws
