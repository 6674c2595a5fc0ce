mod Script
